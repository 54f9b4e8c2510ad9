-- An end with UNRECOVERED READ ERROR shows that each stage failed, where no damage was taken for another payload.
use Rattle.std.proofs.Common.{◌≡◌, ◌∙◌, ap, sym, refl, ℕ, Bool, true, false, cond, nat_eq, List, [], ◌∷◌, ◌++◌, map, append_assoc, Option, Some, None, ◌⊎◌, inl, inr, ⊎_elim}
use Rattle.std.specs.Prelude.{fold}
use Rattle.std.proofs.lemmas.Bool.{eqb-true}
use Rattle.disk_base.specs.declared.address.Lba.{Lba}
use Rattle.disk_base.specs.declared.block.Value.TheVariants.{Data, Lost}
use Rattle.platter_model.specs.declared.op.Op.{Op}
use Rattle.block_machine.specs.declared.entry.Who.TheVariants.{Command, Drive}
use Rattle.block_machine.specs.declared.entry.Entry.{Entry}
use Rattle.block_machine.specs.declared.entry.Entry.TheVariants.{Get, Put, Harden, Passed, Ended}
use Rattle.block_machine.specs.declared.turn.Turn.{Turn}
use Rattle.history_laws.specs.Unread.{bad_after, last_bad, UnreadEndsFollowBadGets}
use Rattle.history_laws.proofs.UnreadLaw.{unread_ends_follow_bad_gets}
use Rattle.drive_scene.specs.Scene.{Beat}
use Rattle.drive_scene.specs.Run.{beat_of, behind_factory}
use Rattle.script_runner.specs.Laws.{OfWholeRunsWithoutStrays, BadReadsAreShown, UnreadEndsAreShown}
use Rattle.script_runner.specs.Script.{made_for}
use Rattle.script_runner.proofs.RunLaws.{of_task_legal}

-- turns parted where their beats are
record PartedTurns (ops : List Op) (turns : List Turn) (t : Beat) : Type 0 where
  first : List Turn
  turn : Turn
  last : List Turn
  whole : turns ≡ first ++ turn ∷ last
  is : beat_of ops turn ≡ t

parted_turns : (ops : List Op) (turns : List Turn) (before : List Beat) (t : Beat) (after : List Beat) → map (beat_of ops) turns ≡ before ++ t ∷ after → PartedTurns ops turns t
parted_turns ops [] [] t after h = absurd (cc)
parted_turns ops [] (x ∷ before) t after h = absurd (cc)
parted_turns ops (turn ∷ turns) [] t after h = record { first = []; turn = turn; last = turns; whole = refl; is = cc }
parted_turns ops (turn ∷ turns) (x ∷ before) t after h =
    let tail : map (beat_of ops) turns ≡ before ++ t ∷ after = cc in
    let rest = parted_turns ops turns before t after tail in
    record { first = turn ∷ rest.first; turn = rest.turn; last = rest.last; whole = ap (λ (ts : List Turn). turn ∷ ts) rest.whole; is = rest.is }

-- a bad get of a block by a command, among entries
record BadGet (c : ℕ) (b : Lba) (entries : List Entry) : Type 0 where
  before : List Entry
  behind : List Entry
  whole : entries ≡ before ++ Get c b Lost ∷ behind

one_earlier : (c : ℕ) (b : Lba) (e : Entry) (entries : List Entry) → BadGet c b entries → BadGet c b (e ∷ entries)
one_earlier c b e entries i = record { before = e ∷ i.before; behind = i.behind; whole = ap (λ (es : List Entry). e ∷ es) i.whole }

same_get : (c d : ℕ) (a b : Lba) → c ≡ d → a.0 ≡ b.0 → Get d a Lost ≡ Get c b Lost
same_get c d a b e f = ap (λ (n : ℕ). Get n a Lost) (sym e) ∙ ap (λ (n : ℕ). Get c (record { 0 = n }) Lost) f

bad_here : (t : Bool) (c d : ℕ) (a b : Lba) (g : Option ℕ) (entries : List Entry) → nat_eq c d ≡ t → cond t (Some a.0) g ≡ Some b.0 → (g ≡ Some b.0) ⊎ BadGet c b (Get d a Lost ∷ entries)
bad_here true c d a b g entries e h =
    let at : a.0 ≡ b.0 = cc in
    inr (record { before = []; behind = entries; whole = ap (λ (x : Entry). x ∷ entries) (same_get c d a b (eqb-true c d e) at) })
bad_here false c d a b g entries e h = inl h

none_here : (t : Bool) (c : ℕ) (b : Lba) (g : Option ℕ) (entries : List Entry) → cond t None g ≡ Some b.0 → (g ≡ Some b.0) ⊎ BadGet c b entries
none_here true c b g entries h = absurd (cc)
none_here false c b g entries h = inl h

bad_one : (c : ℕ) (b : Lba) (g : Option ℕ) (e : Entry) (entries : List Entry) → bad_after c g e ≡ Some b.0 → (g ≡ Some b.0) ⊎ BadGet c b (e ∷ entries)
bad_one c b g (Get d a Lost) entries h = bad_here (nat_eq c d) c d a b g entries refl h
bad_one c b g (Get d a (Data v)) entries h = none_here (nat_eq c d) c b g _ h
bad_one c b g (Put d a v) entries h = none_here (nat_eq c d) c b g _ h
bad_one c b g (Harden (Command d) a) entries h = none_here (nat_eq c d) c b g _ h
bad_one c b g (Harden Drive a) entries h = inl h
bad_one c b g (Passed d from to) entries h = none_here (nat_eq c d) c b g _ h
bad_one c b g other entries h = inl h

bad_among : (c : ℕ) (b : Lba) (g : Option ℕ) (entries : List Entry) → fold (bad_after c) g entries ≡ Some b.0 → (g ≡ Some b.0) ⊎ BadGet c b entries
bad_among c b g [] h = inl h
bad_among c b g (e ∷ entries) h =
    ⊎_elim (bad_one c b g e entries) (λ (later : BadGet c b entries). inr (one_earlier c b e entries later)) (bad_among c b (bad_after c g e) entries h)

got_bad : (c : ℕ) (b : Lba) (entries : List Entry) → last_bad c entries ≡ Some b.0 → BadGet c b entries
got_bad c b entries h = ⊎_elim (λ (e : None ≡ Some b.0). absurd (cc)) (λ (got : BadGet c b entries). got) (bad_among c b None entries h)

pub unread_ends_are_shown : OfWholeRunsWithoutStrays BadReadsAreShown → OfWholeRunsWithoutStrays UnreadEndsAreShown
unread_ends_are_shown shown order script turns ops good none c reply b end same =
    let p = parted_turns (behind_factory (made_for good.size script) ops) turns end.before end.turn end.behind end.among in
    let last : last_bad c end.earlier ≡ Some b.0 =
    of_task_legal UnreadEndsFollowBadGets unread_ends_follow_bad_gets order script turns ops good
    (record {
      number = c;
      reply = reply;
      turn = p.turn;
      before = p.first;
      behind = p.last;
      earlier = end.earlier;
      later = end.later;
      among = p.whole;
      within = ap (λ (x : Beat). x.entries) p.is ∙ end.within;
    }) b.0 same in
    let g = got_bad c b end.earlier last in
    shown order script turns ops good none c b
    (record {
      turn = end.turn;
      before = end.before;
      behind = end.behind;
      earlier = g.before;
      later = g.behind ++ Ended c reply ∷ end.later;
      among = end.among;
      within = end.within ∙ ap (λ (es : List Entry). es ++ Ended c reply ∷ end.later) g.whole ∙ append_assoc g.before (Get c b Lost ∷ g.behind) (Ended c reply ∷ end.later);
    })
