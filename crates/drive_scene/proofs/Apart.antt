-- No block is held twice after a turn of a command.
use Rattle.std.proofs.Common.{◌≡◌, ◌≢◌, ◌⊎◌, inl, inr, ℕ, ◌<◌, Bool, true, false, true≢false, cond, eqb, ltb, not, List, [], ◌∷◌, length, get_or, Option, Some, None, refl, sym, ap, ◌∙◌, subst}
use Rattle.std.specs.Prelude.{◌||◌, ◌&&◌, ◌==◌, find, All, AllPairs}
use Rattle.std.specs.Option.{option_and_then, option_map}
use Rattle.std.proofs.lemmas.Bool.{cases_eq, eq-eqb}
use Rattle.std.proofs.lemmas.List.Elements.{All-nil, All-cons}
use Rattle.platter_model.specs.declared.op.Op.{Op}
use Rattle.task_set.specs.declared.member.Member.{Member}
use Rattle.task_set.specs.Members.{member_of}
use Rattle.cdb_reader.specs.declared.plan.Plan.{Plan}
use Rattle.cdb_reader.specs.declared.plan.Plan.TheVariants.{Reading, Writing, Syncing}
use Rattle.cdb_reader.specs.declared.plan.Writing as writing
use Rattle.cdb_reader.specs.declared.plan.Syncing as syncing
use Rattle.cdb_reader.specs.declared.plan.Reading as reading
use Rattle.block_machine.specs.State.{owed_by}
use Rattle.move_table.specs.declared.flight.Flight.{Flight}
use Rattle.drive_scene.specs.Scene.{Scene}
use Rattle.drive_scene.specs.Holds.{held_by_plan, held_block, holder_besides, IsApart}
use Rattle.drive_scene.proofs.Holders.{no_move}
use Rattle.drive_scene.proofs.HardenTurns.{not_held}
use Rattle.block_machine.specs.declared.turn.Label.TheVariants.{Work}

-- nobody else holds the block that a plan holds
abbrev pub HoldsAlone : Scene → ℕ → List Op → Plan → Type 0
HoldsAlone s c window plan = (b : ℕ) → held_by_plan window plan ≡ Some b → holder_besides s (Work c) b ≡ None

-- a plan that holds no block
pub holds_none : (s : Scene) (c : ℕ) (window : List Op) (plan : Plan) → held_by_plan window plan ≡ None → HoldsAlone s c window plan
holds_none s c window plan none b held = absurd (let never : None ≡ Some b = sym none ∙ held in cc)

-- a read holds its next block, if any
pub holds_next : (s : Scene) (c : ℕ) (window : List Op) (r : reading.Reading) → holder_besides s (Work c) r.at ≡ None → HoldsAlone s c window (Reading r)
holds_next s c window r free b held = by (not (eqb (length window) 0) || r.hardened) held
  where
    by : (t : Bool) → cond t (Some r.at) None ≡ Some b → holder_besides s (Work c) b ≡ None
    by true is = let same : r.at ≡ b = cc in sym (ap (holder_besides s (Work c)) same) ∙ free
    by false is = absurd (cc)

-- a write and a sync hold no block where nothing failed and no harden is owed
pub unheld_write : (window : List Op) (w : writing.Writing) → window ≡ [] → w.owes_harden ≡ false → held_by_plan window (Writing w) ≡ None
unheld_write window w empty settled =
    λ i. cond ((not (eqb (length (empty i)) 0) || settled i) && ltb w.at w.end) (Some w.at) None

pub unheld_sync : (window : List Op) (y : syncing.Syncing) → window ≡ [] → held_by_plan window (Syncing y) ≡ None
unheld_sync window y empty = ap (λ (w : List Op). held_by_plan w (Syncing y)) empty

-- what a command holds, by the plan that it owes
pub held_of : (t : Scene) (c : ℕ) (plan : Plan) → owed_by t.hist c ≡ Some plan → held_block t c ≡ held_by_plan (t.windows c) plan
held_of t c plan owes = ap (option_and_then (held_by_plan (t.windows c))) owes

-- a command that isn't in holds nothing
pub held_out : (t : Scene) (c : ℕ) → member_of t.hist.set c ≡ None → held_block t c ≡ None
held_out t c gone =
    ap (λ (o : Option Member). option_and_then (held_by_plan (t.windows c)) (option_and_then (λ (m : Member). (t.hist.duties c).owes) o)) gone

-- one command alone holds another block than before, and no other held that
commands_on : (s t : Scene) (c : ℕ) → IsApart s → ((q : ℕ) → q ≢ c → held_block t q ≡ held_block s q)
    → ((b : ℕ) → held_block t c ≡ Some b → holder_besides s (Work c) b ≡ None) → (x y b : ℕ) → held_block t x ≡ Some b → held_block t y ≡ Some b → x ≡ y
commands_on s t c apart others alone x y b of_x of_y = by (cases_eq x c) (cases_eq y c)
  where
    by : (x ≡ c) ⊎ (x ≢ c) → (y ≡ c) ⊎ (y ≢ c) → x ≡ y
    by (inl one) (inl two) = one ∙ sym two
    by (inl one) (inr two) = absurd (not_held s c y b b (alone b (sym (ap (held_block t) one) ∙ of_x)) two (sym (others y two) ∙ of_y) refl)
    by (inr one) (inl two) = absurd (not_held s c x b b (alone b (sym (ap (held_block t) two) ∙ of_y)) one (sym (others x one) ∙ of_x) refl)
    by (inr one) (inr two) = apart.commands x y b (sym (others x one) ∙ of_x) (sym (others y two) ∙ of_y)

-- where no move holds a block, no move is of it
unmoved : (flights : List Flight) (b : ℕ) → option_map (λ f. f.j) (find (λ f. f.job.b.0 == b) flights) ≡ None → All (λ f. f.job.b.0 ≢ b) flights
unmoved [] b none = All-nil (λ f. f.job.b.0 ≢ b)
unmoved (f ∷ fs) b none = by (unmoved fs b) (f.job.b.0 == b) refl none
  where
    by : (option_map (λ g. g.j) (find (λ g. g.job.b.0 == b) fs) ≡ None → All (λ g. g.job.b.0 ≢ b) fs) → (t : Bool) → (f.job.b.0 == b) ≡ t
        → option_map (λ g. g.j) (cond t (Some f) (find (λ g. g.job.b.0 == b) fs)) ≡ None → All (λ g. g.job.b.0 ≢ b) (f ∷ fs)
    by later true e never = absurd (cc)
    by later false e rest = All-cons (λ g. g.job.b.0 ≢ b) f fs (λ same. true≢false (sym (eq-eqb f.job.b.0 b same) ∙ e)) (later rest)

-- no block is held twice then
pub apart_on : (s t : Scene) (c : ℕ) → IsApart s → t.back.flights ≡ s.back.flights → ((q : ℕ) → q ≢ c → held_block t q ≡ held_block s q)
    → ((b : ℕ) → held_block t c ≡ Some b → holder_besides s (Work c) b ≡ None) → IsApart t
apart_on s t c apart same others alone = record {
  commands = commands_on s t c apart others alone;
  moves = subst (λ (fs : List Flight). AllPairs (λ f g. f.job.b ≢ g.job.b) fs) (sym same) apart.moves;
  owned = subst (λ (fs : List Flight). All (λ f. (q : ℕ) → held_block t q ≡ Some f.job.b.0 → f.job.owner ≡ Some q) fs) (sym same)
      (λ k d within q held. by k d within q held (cases_eq q c));
}
  where
    by : (k : ℕ) (d : Flight) → k < length s.back.flights → (q : ℕ) → held_block t q ≡ Some (get_or s.back.flights k d).job.b.0 → (q ≡ c) ⊎ (q ≢ c)
        → (get_or s.back.flights k d).job.owner ≡ Some q
    by k d within q held (inl own) =
        absurd (unmoved s.back.flights (get_or s.back.flights k d).job.b.0
        (no_move s (Work c) (get_or s.back.flights k d).job.b.0 (alone (get_or s.back.flights k d).job.b.0 (sym (ap (held_block t) own) ∙ held))) k d within refl)
    by k d within q held (inr other) = apart.owned k d within q (sym (others q other) ∙ held)

-- the command holds nothing
pub apart_none : (s t : Scene) (c : ℕ) → IsApart s → t.back.flights ≡ s.back.flights → ((q : ℕ) → q ≢ c → held_block t q ≡ held_block s q)
    → held_block t c ≡ None → IsApart t
apart_none s t c apart same others none = apart_on s t c apart same others (λ b held. absurd (let never : None ≡ Some b = sym none ∙ held in cc))
