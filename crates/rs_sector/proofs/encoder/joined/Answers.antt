use Rattle.std.proofs.Common.{◌++◌, replicate, refl, ap₂, ◌∙◌}
use Rattle.rs_sector.proofs.Codewords.{put_behind}
use Rattle.rs_sector.proofs.encoder.joined.Goals as goal

pub returns : goal.returns
returns c =
    put_behind c.copy_from_slice.new.self (replicate 16 0) c.copy_from_slice-2.new.self c.copy_from_slice.ensures.len refl
    ∙ ap₂ (λ p q. p ++ q) c.copy_from_slice.ensures.after c.copy_from_slice-2.ensures.after
