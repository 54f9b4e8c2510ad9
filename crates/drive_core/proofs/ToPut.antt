-- The data of the block that a command puts next.
use Rattle.std.proofs.Common.{◌≡◌, ℕ, Bool, true, List, Option, Some, None, sym, ap, ◌∙◌, subst, get_or}
use Rattle.std.specs.Prelude.{IsTrue, IsSomeAnd, position}
use Rattle.std.specs.Option.{option_map}
use Rattle.std.proofs.lemmas.Bool.{lt-ltb}
use Rattle.disk_base.specs.declared.address.Lba.{Lba}
use Rattle.command_engine.specs.declared.need.Need.{Need}
use Rattle.command_engine.specs.Course.{Course, next_block, puts_next}
use Rattle.command_engine.specs.Need.{need_of}
use Rattle.command_engine.specs.Standing.{IsCourse}
use Rattle.drive_core.specs.declared.accepted.Accepted.{Accepted}
use Rattle.drive_core.specs.declared.accepted.Errand.{Errand}
use Rattle.drive_core.specs.Accepting.{under_way, errand_of, is_numbered}
use Rattle.drive_core.specs.Putting.{NeedsPut}
use Rattle.drive_core.specs.Syncing.{Needs}
use Rattle.drive_core.proofs.Placing.{under_way-there, under_way-nowhere}
use Rattle.drive_core.proofs.TakeTurns.{GivenBy, given_by}
use Rattle.drive_core.proofs.WriteTurns.{put_need, IsWriteNeed, write_need}

-- a write that needs a block to be put has one
pub has_next : (commands : List Accepted) (c : ℕ) (e : Errand) (through : Bool) (b : Lba) → option_map errand_of (under_way commands c) ≡ Some e
    → e.need ≡ put_need through b → IsSomeAnd (under_way commands c) (λ w. IsTrue (puts_next w.plan))
has_next commands c e through b errand is =
    let given : GivenBy errand_of (under_way commands c) e = given_by errand_of (under_way commands c) e errand in
    let need : need_of given.x ≡ put_need through b = ap (λ (y : Errand). y.need) given.gives ∙ is in
    let write : IsWriteNeed given.x.plan given.x.step b through = write_need given.x.plan given.x.moved given.x.step through b need in
    let next : puts_next given.x.plan ≡ true = ap puts_next write.plan_is ∙ lt-ltb write.w.at write.w.end write.left in
    subst (λ (o : Option Course). IsSomeAnd o (λ w. IsTrue (puts_next w.plan))) (sym given.is) next

pub needs_it : (commands : List Accepted) (c : ℕ) (e : Errand) (need : Need) → option_map errand_of (under_way commands c) ≡ Some e → e.need ≡ need → Needs commands c need
needs_it commands c e need errand is =
    let given : GivenBy errand_of (under_way commands c) e = given_by errand_of (under_way commands c) e errand in
    ap (option_map (λ (w : Course). need_of w)) given.is ∙ ap Some (ap (λ (y : Errand). y.need) given.gives ∙ is)

-- the command that is there
pub put_next : (commands : List Accepted) (c i : ℕ) (d : Accepted) (w : Course) (block : List ℕ) (need : Need) → position (is_numbered c) commands ≡ Some i
    → d ≡ get_or commands i d → (get_or commands i d).work ≡ Some w → IsCourse w → block ≡ next_block w.plan → Needs commands c need → NeedsPut commands c need block
put_next commands c i d w block need at same works stands is needs =
    let there : under_way commands c ≡ Some w = under_way-there commands c i d at same ∙ (ap (λ (a : Accepted). a.work) same ∙ works) in
    let given : GivenBy (λ (x : Course). need_of x) (under_way commands c) need = given_by (λ (x : Course). need_of x) (under_way commands c) need needs in
    let one : given.x ≡ w = let both : Some given.x ≡ Some w = sym given.is ∙ there in cc in
    record {
      work = w;
      under_way = there;
      need_is = ap (λ (x : Course). need_of x) (sym one) ∙ given.gives;
      stands = stands;
      block = sym is;
    }

-- what is required of a command that is there, and that one is there
pub next_there : (commands : List Accepted) (c i : ℕ) (d : Accepted) (w : Course) → position (is_numbered c) commands ≡ Some i → d ≡ get_or commands i d → (get_or commands i d).work ≡ Some w
    → IsSomeAnd (under_way commands c) (λ x. IsTrue (puts_next x.plan)) → IsTrue (puts_next w.plan)
next_there commands c i d w at same works puts =
    let there : under_way commands c ≡ Some w = under_way-there commands c i d at same ∙ (ap (λ (a : Accepted). a.work) same ∙ works) in
    let moved : IsSomeAnd (Some w) (λ x. IsTrue (puts_next x.plan)) = subst (λ (o : Option Course). IsSomeAnd o (λ x. IsTrue (puts_next x.plan))) there puts in
    moved

pub next_waiting : (commands : List Accepted) (c i : ℕ) (d : Accepted) → position (is_numbered c) commands ≡ Some i → d ≡ get_or commands i d → (get_or commands i d).work ≡ None
    → IsSomeAnd (under_way commands c) (λ x. IsTrue (puts_next x.plan)) → ⊥
next_waiting commands c i d at same waits puts =
    let there : under_way commands c ≡ None = under_way-there commands c i d at same ∙ (ap (λ (a : Accepted). a.work) same ∙ waits) in
    subst (λ (o : Option Course). IsSomeAnd o (λ x. IsTrue (puts_next x.plan))) there puts

pub next_nowhere : (commands : List Accepted) (c : ℕ) → position (is_numbered c) commands ≡ None
    → IsSomeAnd (under_way commands c) (λ x. IsTrue (puts_next x.plan)) → ⊥
next_nowhere commands c at puts =
    subst (λ (o : Option Course). IsSomeAnd o (λ x. IsTrue (puts_next x.plan))) (under_way-nowhere commands c at) puts

-- the data are those of the command that the errand is of
pub put_asked : (commands seen : List Accepted) (c : ℕ) (e : Errand) (need : Need) (block : List ℕ) → seen ≡ commands → option_map errand_of (under_way commands c) ≡ Some e
    → e.need ≡ need → ((n : Need) → Needs seen c n → NeedsPut seen c n block) → NeedsPut commands c need block
put_asked commands seen c e need block same errand is gives =
    let P : List Accepted → Type 0 = λ xs. NeedsPut xs c need block in
    let N : List Accepted → Type 0 = λ xs. Needs xs c need in
    subst P same (gives need (subst N (sym same) (needs_it commands c e need errand is)))
