use Rattle.std.proofs.Common.{◌≡◌, ◌∙◌, ◌++◌, ◌∷◌, [], refl, ap, subst}
use Rattle.write_cache.specs.Contents.{Contents, IsLeast, dirty_within}
use Rattle.block_machine.specs.declared.entry.Entry.TheVariants.{Passed, Ended}
use Rattle.drive_core.specs.declared.server.Server.{Server}
use Rattle.drive_core.specs.Hardening.{passed_to}
use Rattle.drive_core.proofs.Syncs.{may_harden, passes_all}
use Rattle.drive_core.proofs.syncing.sync.Goals as goal

pub harden-requires-clause-may : goal.harden-requires-clause-may
harden-requires-clause-may c =
    let entries = c.pass.ensures.items ∙ ap (λ es. es ++ passed_to c.args.c c.args.from c.in-Some.b) c.requires.empty in
    let least = subst (λ (x : Contents). IsLeast (dirty_within c.args.from c.args.to x) c.in-Some.b) c.cached.ensures c.in-Some.ensures.least in (
      c.requires.may.0,
      may_harden c.requires.may.0 c.args.server.now c.args.c c.args.from c.args.to c.in-Some.b c.pass.new.entries.items c.requires.may.1
          c.requires.needs least entries,
    )

pub returns-in-Some : goal.returns-in-Some
returns-in-Some c = record {
  moves = λ s may.
      let entries = c.pass.ensures.items ∙ ap (λ es. es ++ passed_to c.args.c c.args.from c.in-Some.b) c.requires.empty in
      let least = subst (λ (x : Contents). IsLeast (dirty_within c.args.from c.args.to x) c.in-Some.b) c.cached.ensures c.in-Some.ensures.least in
      c.harden.ensures.moves s (may_harden s c.args.server.now c.args.c c.args.from c.args.to c.in-Some.b c.pass.new.entries.items may c.requires.needs least entries);
}

pub returns-in-None : goal.returns-in-None
returns-in-None c = record {
  moves = λ s may.
      let mid : Server = record c.args.server.now { commands = c.answer-reply.new.commands } in
      let entries = c.push_reserved.ensures.items ∙ ap (λ es. es ++ Passed c.args.c c.args.from c.args.to ∷ []) c.requires.empty in
      let clean = subst (λ (x : Contents). dirty_within c.args.from c.args.to x ≡ []) c.cached.ensures (c.in-None.ensures.none refl) in
      passes_all s c.args.server.now mid c.conclude.new.server c.args.c c.args.from c.args.to c.conclude.new.entries.items c.answer-reply.result c.conclude.result
      c.halves_are_good.ensures c.passes_are_halves.ensures may c.requires.needs clean refl refl refl refl c.answer-reply.ensures.reply c.answer-reply.ensures.goes
      (λ x some. let g = c.conclude.ensures.ends x some in (g.0, g.1 ∙ ap (λ es. es ++ Ended c.args.c x ∷ []) entries, g.2));
}
