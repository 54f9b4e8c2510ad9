-- Each piece stands behind those before it.
use Rattle.run_picture.proofs.tags.put_rectangle.Goals as goal

pub returns : goal.returns
returns g c = λ start text before.
    c.put-3.ensures start _ (c.put_attribute-2.ensures start _ (c.put_attribute.ensures start _ (c.put_count-4.ensures start _ (c.put_count-3.ensures start _ (c.put_count-2.ensures start _ (c.put_count.ensures start _ (c.put-2.ensures start _ (c.put.ensures start text before))))))))
