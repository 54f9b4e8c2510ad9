-- the four codewords are in reach, and no others; where a word has none, the four have none
use Rattle.channel_path.proofs.Reach.{four_in_reach, none_in_reach, these_in_reach}
use Rattle.std.proofs.Common.{lit<}
use Rattle.channel_path.proofs.reading.corrected.Goals as goal

pub returns-in_err-first-clause-none : goal.returns-in_err-first-clause-none
returns-in_err-first-clause-none c codewords reach =
    absurd (none_in_reach c.args.how c.args.heard.now.bytes c.args.heard.now.flags 0 codewords (lit< tt) c.in_err-first.ensures.none reach)

pub returns-in_err-second-clause-none : goal.returns-in_err-second-clause-none
returns-in_err-second-clause-none c codewords reach =
    absurd (none_in_reach c.args.how c.args.heard.now.bytes c.args.heard.now.flags 1 codewords (lit< tt) c.in_err-second.ensures.none reach)

pub returns-in_err-third-clause-none : goal.returns-in_err-third-clause-none
returns-in_err-third-clause-none c codewords reach =
    absurd (none_in_reach c.args.how c.args.heard.now.bytes c.args.heard.now.flags 2 codewords (lit< tt) c.in_err-third.ensures.none reach)

pub returns-in_err-fourth-clause-none : goal.returns-in_err-fourth-clause-none
returns-in_err-fourth-clause-none c codewords reach =
    absurd (none_in_reach c.args.how c.args.heard.now.bytes c.args.heard.now.flags 3 codewords (lit< tt) c.in_err-fourth.ensures.none reach)

pub returns-clause-some : goal.returns-clause-some
returns-clause-some c =
    four_in_reach c.args.how c.args.heard.now.bytes c.args.heard.now.flags c.in_ok-first.first c.in_ok-second.second c.in_ok-third.third c.in_ok-fourth.fourth
    c.in_ok-first.ensures.some c.in_ok-second.ensures.some c.in_ok-third.ensures.some c.in_ok-fourth.ensures.some

pub returns-clause-none : goal.returns-clause-none
returns-clause-none c codewords reach =
    these_in_reach c.args.how c.args.heard.now.bytes c.args.heard.now.flags c.in_ok-first.first c.in_ok-second.second c.in_ok-third.third c.in_ok-fourth.fourth codewords
    c.in_ok-first.ensures.none c.in_ok-second.ensures.none c.in_ok-third.ensures.none c.in_ok-fourth.ensures.none reach
