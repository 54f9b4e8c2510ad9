-- What each kind of step makes of a view.
use Rattle.std.specs.Prelude.{◌≡◌, ℕ, ◌+◌, List, [], ◌++◌, Option, Some, None}
use Rattle.turn_lock.specs.declared.view.View.{View}
use Rattle.turn_lock.specs.Lists.{gained, longer}

module _ {U K : Type 0} where
  -- the numbers that a view counts
  abbrev pub numbers : View U K → List ℕ
  numbers v = (v.mine ++ v.met) ++ v.theirs

  -- a spent view
  abbrev pub nobody : View U K
  nobody = record { kept = None; first = 0; seen = []; mine = []; met = []; refused = 0; had = None; beside = []; theirs = [] }

  -- who has seen this list, and has made none of its turns
  abbrev pub newcomer : Option K → ℕ → List U → View U K
  newcomer kept first seen = record { kept = kept; first = first; seen = seen; mine = []; met = []; refused = 0; had = None; beside = []; theirs = [] }

  -- claim, where the turn was free
  abbrev pub with_had : List U → View U K → View U K
  with_had log v = record { kept = v.kept; first = v.first; seen = v.seen; mine = v.mine; met = v.met; refused = v.refused; had = Some log; beside = v.beside; theirs = v.theirs }

  -- claim by a try, where it was not
  abbrev pub refused_once : View U K → View U K
  refused_once v = record { kept = v.kept; first = v.first; seen = v.seen; mine = v.mine; met = v.met; refused = v.refused + 1; had = v.had; beside = v.beside; theirs = v.theirs }

  -- release, where this is the value's list
  abbrev pub settled : List U → View U K → View U K
  settled log v = record { kept = v.kept; first = v.first; seen = log; mine = v.mine ++ gained v.had log; met = v.met; refused = v.refused; had = None; beside = v.beside; theirs = v.theirs }

  -- join: the other's list and numbers stand beside one's own
  abbrev pub joined : View U K → View U K → View U K
  joined v w = record { kept = v.kept; first = v.first; seen = v.seen; mine = v.mine; met = v.met; refused = v.refused; had = v.had; beside = w.seen; theirs = w.mine ++ w.met }

  -- compare: the longer list is seen, and the other's numbers are met
  abbrev pub merged : View U K → View U K
  merged v = record { kept = v.kept; first = v.first; seen = longer v.seen v.beside; mine = v.mine; met = v.met ++ v.theirs; refused = v.refused; had = v.had; beside = []; theirs = [] }

  -- a refusal keeps what a view knows, and the numbers that it counts
  pub record IsHarmless (refuse : View U K → View U K) : Type 0 where
    pub kept : (v : View U K) → (refuse v).kept ≡ v.kept
    pub first : (v : View U K) → (refuse v).first ≡ v.first
    pub seen : (v : View U K) → (refuse v).seen ≡ v.seen
    pub beside : (v : View U K) → (refuse v).beside ≡ v.beside
    pub had : (v : View U K) → (refuse v).had ≡ v.had
    pub numbers_are : (v : View U K) → numbers (refuse v) ≡ numbers v
