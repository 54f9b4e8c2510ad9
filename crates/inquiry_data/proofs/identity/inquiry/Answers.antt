-- the longer data, computed
use Rattle.inquiry_data.proofs.identity.inquiry.Goals as goal

pub returns-in-true-eq131-clause-data : goal.returns-in-true-eq131-clause-data
returns-in-true-eq131-clause-data c =
    rw (c.in-true-eq131.is-0, c.in-true-eq131.is-1) c.cut-in-true-eq131.ensures

pub returns-in-true-eq176-clause-data : goal.returns-in-true-eq176-clause-data
returns-in-true-eq176-clause-data c =
    rw (c.in-true-eq176.is-0, c.in-true-eq176.is-1) c.cut-in-true-eq176.ensures

pub returns-in-true-eq177-clause-data : goal.returns-in-true-eq177-clause-data
returns-in-true-eq177-clause-data c =
    rw (c.in-true-eq177.is-0, c.in-true-eq177.is-1) c.cut-in-true-eq177.ensures

pub returns-in-false-eq0-clause-data : goal.returns-in-false-eq0-clause-data
returns-in-false-eq0-clause-data c =
    rw (c.in-false-eq0.is-0, c.in-false-eq0.is-1) c.cut-in-false-eq0.ensures
