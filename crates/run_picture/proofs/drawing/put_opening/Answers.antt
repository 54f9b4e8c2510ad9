-- Each piece stands behind those before it.
use Rattle.run_picture.proofs.drawing.put_opening.Goals as goal

pub returns : goal.returns
returns g c = λ start text before.
    let all = c.put-3.ensures start _ (c.put_attribute-4.ensures start _ (c.put_attribute-3.ensures start _ (c.put_count-2.ensures start _ (c.put_count.ensures start _ (c.put_attribute-2.ensures start _ (c.put_attribute.ensures start _ (c.put-2.ensures start _ (c.put.ensures start text before)))))))) in
    rw (c.width.ensures, c.rows.ensures.rows) at all
