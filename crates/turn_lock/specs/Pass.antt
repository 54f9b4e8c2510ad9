-- A lock and its passes as their callers see them, and what the calls do to a pass.
use Rattle.std.specs.Prelude.{◌≡◌, ◌⊎◌, ℕ, ◌+◌, ◌<◌, ◌≤◌, List, [], ◌∷◌, ◌++◌, length, Some, None, true}
use mathlib.Core.List.{IsPrefix}
use Rattle.atomic_table.specs.Table.{Me}
use Rattle.atomic_table.specs.Seated.{TableId}
use Rattle.turn_lock.specs.declared.view.View.{View}
use Rattle.turn_lock.specs.Lists.{OneBegins, longer, times, rises, Within}

-- a lock: which it is, what no turn changes, and the list when it was made
pub record Origin (U K : Type 0) : Type 0 where
  pub table : TableId
  pub kept : K
  pub turns : List U

-- a pass: its lock, the parts of the ledger that it has, and what it knows
pub record Known (U K : Type 0) : Type 0 where
  pub table : TableId
  pub parts : ℕ
  pub view : View U K

module _ {U K : Type 0} where
  -- the view knows this data, and that the list had this length at the start
  abbrev pub Knows : K → ℕ → View U K → Type 0
  Knows kept first v = (v.kept ≡ Some kept) × (v.first ≡ first)

  -- the pass belongs to the lock
  abbrev pub Belongs : Origin U K → Known U K → Type 0
  Belongs lock pass = (pass.table ≡ lock.table) × Knows lock.kept (length lock.turns) pass.view

  -- a view between two calls: it has not claimed the turn, and has nothing beside its own
  abbrev pub Rests : View U K → Type 0
  Rests v = (v.had ≡ None) × (v.beside ≡ []) × (v.theirs ≡ [])

  -- its own turns rise in number, and all that it counts are of turns that it has seen
  abbrev pub InSeen : View U K → Type 0
  InSeen v = (rises v.first v.mine (length v.seen) ≡ true) × Within v.met (length v.seen)

  -- What a pass keeps between two calls, of its seat and of its share of the ledger
  pub record IsPass {X : Type 0} (me : Me X (View U K)) (parts amount : ℕ) : Type 0 where
    -- no slot is out with it
    pub empty : me.1 ≡ []
    pub rests : Rests me.0
    pub in_seen : InSeen me.0
    pub part : 0 < parts
    -- its share counts its numbers
    pub counted : amount ≡ length me.0.mine + length me.0.met

  -- What a call that claimed the turn did, where the step found this list
  pub record Turn (before : List U) (v w : View U K) : Type 0 where
    -- what had been seen begins it
    pub begins : IsPrefix v.seen before
    -- it stayed, and so did mine; or it became longer by one turn, whose number mine gains
    pub after : ((w.seen ≡ before) × (w.mine ≡ v.mine)) ⊎ ((t : U) × (w.seen ≡ before ++ t ∷ []) × (w.mine ≡ v.mine ++ length w.seen ∷ []))
    pub met_is : w.met ≡ v.met
    pub refused_is : w.refused ≡ v.refused
    -- the turn is released
    pub released : w.had ≡ None

  -- The call made the step, whose answer tells this of the list before and the list after
  abbrev pub Answered : (List U → List U → Type 0) → View U K → View U K → Type 0
  Answered tells v w = (before : List U) × Turn before v w × tells before w.seen

  -- The call was refused, and nothing else
  pub record Refused (v w : View U K) : Type 0 where
    pub refused_is : w.refused ≡ v.refused + 1
    pub seen_is : w.seen ≡ v.seen
    pub mine_is : w.mine ≡ v.mine
    pub met_is : w.met ≡ v.met
    pub had_is : w.had ≡ v.had

  -- What a meeting did, of a pass with the view v and another with w
  pub record Met (v w u : View U K) : Type 0 where
    -- of the two lists one begins the other, and the longer is seen
    pub one_begins : OneBegins v.seen w.seen
    pub seen_is : u.seen ≡ longer v.seen w.seen
    pub ours_begins : IsPrefix v.seen u.seen
    pub theirs_begins : IsPrefix w.seen u.seen
    pub mine_is : u.mine ≡ v.mine
    pub met_is : u.met ≡ v.met ++ (w.mine ++ w.met)
    pub refused_is : u.refused ≡ v.refused
    -- no turn was counted by both
    pub none_twice : (x : ℕ) → times x (v.mine ++ v.met) + times x (w.mine ++ w.met) ≤ 1
