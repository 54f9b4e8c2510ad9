-- What may be picked isn't refused.
use Rattle.std.proofs.Common.{◌≡◌, ◌≢◌, refl, sym, subst, ℕ, ◌%◌, ◌<◌, ◌≤◌, Bool, true, false, not, List, [], ◌∷◌, ◌++◌, map, length, arith, Some, None, Option, cond}
use Rattle.std.specs.Prelude.{filter, is_none, ◌==◌, ◌&&◌, ◌||◌}
use Rattle.std.specs.Option.{is_some}
use Rattle.std.proofs.lemmas.Bool.Decides.{nat_tests}
use Rattle.task_set.specs.declared.member.Member.{Member}
use Rattle.task_set.specs.Members.{member_of}
use Rattle.platter_model.specs.TrueLog.{is_off}
use Rattle.block_machine.specs.Attentions.{initiators}
use Rattle.drive_scene.specs.declared.answer.Waiting.{Waiting}
use Rattle.drive_scene.specs.declared.answer.Pick.{Pick}
use Rattle.drive_scene.specs.declared.answer.Pick.TheVariants.{Arrive, Work, Job, Scan, Destage}
use Rattle.drive_scene.specs.declared.event.Event.TheVariants as event
use Rattle.drive_scene.specs.declared.event.Event.{Event}
use Rattle.drive_scene.specs.Scene.{Scene}
use Rattle.drive_scene.specs.Run.{Run, scene_of}
use Rattle.drive_scene.specs.Holds.{destaged}
use Rattle.drive_scene.specs.Able.{arrives, able, able_destage, is_able, picked, pick_of, refusal, refusal_of_work, work_refused, is_spent, turns_at_most}
use Rattle.drive_scene.proofs.Walking.{able-is}
use Rattle.script_runner.specs.Wanted.{Wanted}
use Rattle.script_runner.specs.Phase.{waiting_of}
use Rattle.script_runner.specs.Phasing.{Fetches}
use Rattle.script_runner.specs.Each.{Each}
use Rattle.script_runner.specs.Ages.{Between}
use Rattle.script_runner.proofs.Ages.{own_member}
use Rattle.script_runner.proofs.Each.{each_append, each_filter, each_map, each_at, each_weaker}

-- what a pick says
abbrev pub CanCome : Scene → Wanted → Pick → Type 0
CanCome s wanted (Arrive i) = (1 ≤ i) × (i ≤ 8) × (wanted.sends i ≢ [])
CanCome s wanted (Work c) = (coming : ℕ) → refusal_of_work s coming c ≡ None
CanCome s wanted Destage = (0 < wanted.destages) × (is_some (destaged s) ≡ true)
CanCome s wanted p = ⊥

something : {A : Type 0} (xs : List A) → not (length xs == 0) ≡ true → xs ≢ []
something [] h e = absurd (cc)
something (x ∷ xs) h e = cc

module _ (s : Scene) (wanted : Wanted) where
  arrivals_can : Each (λ i. arrives (waiting_of wanted) i ≡ true → CanCome s wanted (Arrive i)) initiators
  arrivals_can = (λ h. (omega arith, omega arith, something (wanted.sends 1) h), (λ h. (omega arith, omega arith, something (wanted.sends 2) h), (λ h. (omega arith, omega arith, something (wanted.sends 3) h), (λ h. (omega arith, omega arith, something (wanted.sends 4) h), (λ h. (omega arith, omega arith, something (wanted.sends 5) h), (λ h. (omega arith, omega arith, something (wanted.sends 6) h), (λ h. (omega arith, omega arith, something (wanted.sends 7) h), (λ h. (omega arith, omega arith, something (wanted.sends 8) h), tt))))))))

  none_is : {A : Type 0} (o : Option A) → is_none o ≡ true → o ≡ None
  none_is None h = refl
  none_is (Some x) h = absurd (cc)

  work_can : (m : Member) → member_of s.hist.set m.task.c ≡ Some m → is_able s m ≡ true → CanCome s wanted (Work m.task.c)
  work_can m is able coming = rw is (none_is (work_refused s m.task.c m) able)

  destages_can : Each (CanCome s wanted) (able_destage s (waiting_of wanted))
  destages_can = go (not (wanted.destages == 0)) (is_some (destaged s)) refl refl
    where
      go : (asked can : Bool) → not (wanted.destages == 0) ≡ asked → is_some (destaged s) ≡ can → Each (CanCome s wanted) (cond (asked && can) (Destage ∷ []) [])
      go false can is_asked is_can = tt
      go true false is_asked is_can = tt
      go true true is_asked is_can = ((grind (arith, nat_tests, is_asked), is_can), tt)

  pub all_can : s.back.flights ≡ [] → Between 0 s.hist.set s.hist.arrived → Each (CanCome s wanted) (able s (waiting_of wanted))
  all_can none ages = subst (Each (CanCome s wanted)) (sym (able-is s (waiting_of wanted) none)) (each_append (CanCome s wanted) (map Arrive (filter (arrives (waiting_of wanted)) initiators)) (map (λ m. Work m.task.c) (filter (is_able s) s.hist.set) ++ able_destage s (waiting_of wanted))
      (each_map Arrive (CanCome s wanted) (filter (arrives (waiting_of wanted)) initiators) (each_filter (λ i. CanCome s wanted (Arrive i)) (arrives (waiting_of wanted)) initiators arrivals_can))
      (each_append (CanCome s wanted) (map (λ m. Work m.task.c) (filter (is_able s) s.hist.set)) (able_destage s (waiting_of wanted))
      (each_map (λ (m : Member). Work m.task.c) (CanCome s wanted) (filter (is_able s) s.hist.set)
      (each_filter (λ m. CanCome s wanted (Work m.task.c)) (is_able s) s.hist.set
      (each_weaker (λ (m : Member). member_of s.hist.set m.task.c ≡ Some m) (λ (m : Member). is_able s m ≡ true → CanCome s wanted (Work m.task.c)) s.hist.set work_can (own_member 0 s.hist.set s.hist.arrived ages))))
      destages_can))

  pub picked_can : (x : ℕ) (p : Pick) → s.back.flights ≡ [] → Between 0 s.hist.set s.hist.arrived → picked s (waiting_of wanted) x ≡ Some p → CanCome s wanted p
  picked_can x p none ages is = each_at (CanCome s wanted) (able s (waiting_of wanted)) (x % length (able s (waiting_of wanted))) p (all_can none ages) is

-- a pick of a drive is one while the power is on
pub picked_on : (r : Run) (w : Waiting) (x : ℕ) (p : Pick) → pick_of r w x ≡ Some p → (is_off r.ops ≡ false) × (picked (scene_of r) w x ≡ Some p)
picked_on r w x p = go (is_off r.ops) (is_spent r)
  where
    go : (off spent : Bool) → cond (off || spent) None (picked (scene_of r) w x) ≡ Some p → (off ≡ false) × (picked (scene_of r) w x ≡ Some p)
    go true spent h = absurd (cc)
    go false true h = absurd (cc)
    go false false h = (refl, h)

-- a run of fewer turns than a drive can number
pub not_spent : (r : Run) → length r.turns < turns_at_most → is_spent r ≡ false
not_spent r lt = grind (arith, nat_tests)

-- the event of a pick isn't refused
pub not_refused : (r : Run) (wanted left : Wanted) (p : Pick) (e : Event) → is_off r.ops ≡ false → is_spent r ≡ false → CanCome (scene_of r) wanted p → Fetches wanted p e left
    → refusal r e ≡ None
not_refused r wanted left (Arrive i) (event.Arrive a) on room can is = rw (on, room) refl
not_refused r wanted left (Work c) (event.Work d) on room can is = rw (on, room, is.0) (can r.coming)
not_refused r wanted left Destage event.Destage on room can is = rw (on, room, can.1) refl
not_refused r wanted left (Arrive i) (event.Work d) on room can is = absurd is
not_refused r wanted left (Arrive i) (event.Job d) on room can is = absurd is
not_refused r wanted left (Arrive i) (event.Any d) on room can is = absurd is
not_refused r wanted left (Arrive i) event.Scan on room can is = absurd is
not_refused r wanted left (Arrive i) event.Destage on room can is = absurd is
not_refused r wanted left (Arrive i) (event.World w) on room can is = absurd is
not_refused r wanted left (Work c) (event.Arrive a) on room can is = absurd is
not_refused r wanted left (Work c) (event.Job d) on room can is = absurd is
not_refused r wanted left (Work c) (event.Any d) on room can is = absurd is
not_refused r wanted left (Work c) event.Scan on room can is = absurd is
not_refused r wanted left (Work c) event.Destage on room can is = absurd is
not_refused r wanted left (Work c) (event.World w) on room can is = absurd is
not_refused r wanted left Destage (event.Arrive a) on room can is = absurd is
not_refused r wanted left Destage (event.Work d) on room can is = absurd is
not_refused r wanted left Destage (event.Job d) on room can is = absurd is
not_refused r wanted left Destage (event.Any d) on room can is = absurd is
not_refused r wanted left Destage event.Scan on room can is = absurd is
not_refused r wanted left Destage (event.World w) on room can is = absurd is
not_refused r wanted left (Job j) e on room can is = absurd can
not_refused r wanted left Scan e on room can is = absurd can
