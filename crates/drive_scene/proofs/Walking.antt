-- Walks along the set and the initiators, and what they give.
use Rattle.std.proofs.Common.{◌≡◌, ℕ, zero, suc, ◌+◌, ◌-◌, ◌<◌, ◌≤◌, Bool, true, false, not, cond, eqb, ltb, List, [], ◌∷◌, ◌++◌, length, get_or, take, drop, Option, Some, None, refl, sym, ap, ◌∙◌, subst, arith, add-one, drop-cons, length-append, append-nil, map, filter}
use Rattle.std.specs.Prelude.{◌%◌, ◌&&◌, find, slice_get}
use Rattle.std.specs.Option.{option_map_or, is_none, is_some}
use Rattle.std.proofs.lemmas.Bool.{cond-true, cond-false, eq-eqb, ne_eqb, eqb-true, ltb-true, ltb-false}
use Rattle.std.proofs.lemmas.List.{get_or-map, length-map, map-append, get_or_append_left, get_or-append-add}
use Rattle.std.proofs.lemmas.List.Elements.{filter_more}
use Rattle.std.proofs.lemmas.Option.{slice_get-get_or}
use Rattle.task_set.specs.declared.member.Member.{Member}
use Rattle.task_set.specs.Members.{member_of, IsByAge}
use Rattle.block_machine.specs.Attentions.{initiators}
use Rattle.drive_scene.specs.declared.answer.Waiting.{Waiting}
use Rattle.drive_scene.specs.declared.answer.Pick.{Pick}
use Rattle.drive_scene.specs.declared.answer.Pick.TheVariants.{Arrive, Work, Job, Destage}
use Rattle.drive_scene.specs.declared.answer.TurnAnswer.{TurnAnswer}
use Rattle.drive_scene.specs.declared.answer.TurnAnswer.TheVariants.{Idle}
use Rattle.move_table.specs.declared.flight.Flight.{Flight}
use Rattle.drive_scene.specs.Scene.{Scene}
use Rattle.drive_scene.specs.Holds.{destaged}
use Rattle.drive_scene.specs.Able.{arrives, is_able, able, able_destage, picked, nothing_waiting, work_refused, refusal_of_work}

-- what doesn't pass is walked past
find-past : {X : Type 0} (p : X → Bool) (xs : List X) (i : ℕ) (d : X) → i < length xs → p (get_or xs i d) ≡ false → find p (drop (i + 1) xs) ≡ find p (drop i xs)
find-past {X} p xs i d inside fails =
    let here : drop i xs ≡ get_or xs i d ∷ drop (suc i) xs = drop-cons xs i d inside in
    ap (λ (n : ℕ). find p (drop n xs)) (add-one i)
    ∙ sym (ap (find p) here ∙ cond-false (p (get_or xs i d)) (Some (get_or xs i d)) (find p (drop (suc i) xs)) fails)

pub walks-past : {X : Type 0} (p : X → Bool) (xs ys : List X) (i : ℕ) (x : X) → xs ≡ ys → x ≡ get_or xs i x → i < length xs → p x ≡ false
    → find p (drop (i + 1) ys) ≡ find p (drop i ys)
walks-past {X} p xs ys i x same is inside fails =
    subst (λ (zs : List X). find p (drop (i + 1) zs) ≡ find p (drop i zs)) same (find-past p xs i x inside (sym (ap p is) ∙ fails))

-- the command of a number is the one that has it
member_of-at : (set : List Member) → IsByAge set → (k : ℕ) (d : Member) → k < length set → member_of set (get_or set k d).task.c ≡ Some (get_or set k d)
member_of-at [] by_age k d inside = absurd (omega arith)
member_of-at (x ∷ xs) by_age zero d inside =
    cond-true (eqb x.task.c x.task.c) (Some x) (member_of xs x.task.c) (eq-eqb x.task.c x.task.c refl)
member_of-at (x ∷ xs) by_age (suc k) d inside =
    let m : Member = get_or xs k d in
    let older : x.task.c < m.task.c = by_age 0 (suc k) d (omega arith) (omega arith) in
    cond-false (eqb x.task.c m.task.c) (Some x) (member_of xs m.task.c) (ne_eqb x.task.c m.task.c (λ e. absurd (omega arith)))
    ∙ member_of-at xs (λ i j d below within. by_age (suc i) (suc j) d (omega arith) (omega arith)) k d (omega arith)

pub member-there : (set members : List Member) (i : ℕ) (m : Member) → members ≡ set → IsByAge set → i < length members → m ≡ get_or members i m
    → member_of set m.task.c ≡ Some m
member-there set members i m same by_age inside is =
    let at : m ≡ get_or set i m = is ∙ ap (λ (ms : List Member). get_or ms i m) same in
    let within : i < length set = subst (λ (ms : List Member). i < length ms) same inside in
    ap (λ (x : Member). member_of set x.task.c) at ∙ (member_of-at set by_age i m within ∙ ap Some (sym at))

-- it has that number
pub member-number : (set : List Member) (c : ℕ) (m : Member) → member_of set c ≡ Some m → m.task.c ≡ c
member-number [] c m is = absurd (cc)
member-number (x ∷ xs) c m is = by (λ there. member-number xs c m there) (eqb x.task.c c) refl is
  where
    by : (member_of xs c ≡ Some m → m.task.c ≡ c) → (t : Bool) → eqb x.task.c c ≡ t → cond t (Some x) (member_of xs c) ≡ Some m → m.task.c ≡ c
    by rest true here there = let same : x ≡ m = cc in sym (ap (λ (y : Member). y.task.c) same) ∙ eqb-true x.task.c c here
    by rest false here there = rest there

pub member-itself : (set : List Member) (c : ℕ) (m : Member) → member_of set c ≡ Some m → member_of set m.task.c ≡ Some m
member-itself set c m is = ap (member_of set) (member-number set c m is) ∙ is

pub refusal-is : (s : Scene) (set : List Member) (c coming : ℕ) (m : Member) → set ≡ s.hist.set → member_of set c ≡ Some m
    → work_refused s m.task.c m ≡ refusal_of_work s coming c
refusal-is s set c coming m same is =
    ap (λ (n : ℕ). work_refused s n m) (member-number set c m is)
    ∙ sym (ap (λ (o : Option Member). option_map_or (work_refused s c) o (Some (Idle coming))) (ap (λ (ms : List Member). member_of ms c) (sym same) ∙ is))

-- the initiators are the numbers from 1 on
nth_initiator : (i : ℕ) → i < 8 → get_or initiators i 0 ≡ i + 1
nth_initiator zero low = refl
nth_initiator (suc zero) low = refl
nth_initiator (suc (suc zero)) low = refl
nth_initiator (suc (suc (suc zero))) low = refl
nth_initiator (suc (suc (suc (suc zero)))) low = refl
nth_initiator (suc (suc (suc (suc (suc zero))))) low = refl
nth_initiator (suc (suc (suc (suc (suc (suc zero)))))) low = refl
nth_initiator (suc (suc (suc (suc (suc (suc (suc zero))))))) low = refl
nth_initiator (suc (suc (suc (suc (suc (suc (suc (suc n)))))))) low = absurd (omega arith)

-- one more of them
pub arrives_more : (w : Waiting) (n : ℕ) (xs ys : List ℕ) → 1 ≤ n → n < 9 → xs ≡ filter (arrives w) (take (n - 1) initiators)
    → ys ≡ xs ++ cond (arrives w n) (n ∷ []) [] → ys ≡ filter (arrives w) (take (n + 1 - 1) initiators)
arrives_more w n xs ys low high found more =
    let here : get_or initiators (n - 1) 0 ≡ n = nth_initiator (n - 1) (omega arith) ∙ (let e : n - 1 + 1 ≡ n = omega arith in e) in
    let one : filter (arrives w) (take (n - 1 + 1) initiators) ≡ filter (arrives w) (take (n - 1) initiators) ++ cond (arrives w n) (n ∷ []) [] =
    filter_more (arrives w) initiators (n - 1) 0 (omega arith)
    ∙ ap (λ (i : ℕ). filter (arrives w) (take (n - 1) initiators) ++ cond (arrives w i) (i ∷ []) []) here in
    more ∙ (ap (λ (zs : List ℕ). zs ++ cond (arrives w n) (n ∷ []) []) found
    ∙ (sym one ∙ ap (λ (i : ℕ). filter (arrives w) (take i initiators)) (let e : n - 1 + 1 ≡ n + 1 - 1 = omega arith in e)))

came : (t : Bool) (n i : ℕ) → cond t (Some n) None ≡ Some i → i ∷ [] ≡ cond t (n ∷ []) []
came true n i is = let same : i ≡ n = cc in ap (λ (j : ℕ). j ∷ []) same
came false n i is = absurd (cc)

came_not : (t : Bool) (n : ℕ) → cond t (Some n) None ≡ None → [] ≡ cond t (n ∷ []) []
came_not true n is = absurd (cc)
came_not false n is = refl

pub arrives-one : (w : Waiting) (n i : ℕ) (r : Option ℕ) (xs ys : List ℕ) → 1 ≤ n → n < 9 → xs ≡ filter (arrives w) (take (n - 1) initiators)
    → r ≡ cond (arrives w n) (Some n) None → r ≡ Some i → ys ≡ xs ++ i ∷ [] → ys ≡ filter (arrives w) (take (n + 1 - 1) initiators)
arrives-one w n i r xs ys low high found is some more =
    arrives_more w n xs ys low high found (more ∙ ap (λ (zs : List ℕ). xs ++ zs) (came (arrives w n) n i (sym is ∙ some)))

pub arrives-none : (w : Waiting) (n : ℕ) (r : Option ℕ) (xs ys : List ℕ) → 1 ≤ n → n < 9 → xs ≡ filter (arrives w) (take (n - 1) initiators)
    → r ≡ cond (arrives w n) (Some n) None → r ≡ None → ys ≡ xs → ys ≡ filter (arrives w) (take (n + 1 - 1) initiators)
arrives-none w n r xs ys low high found is none same =
    arrives_more w n xs ys low high found (same ∙ (sym (append-nil xs) ∙ ap (λ (zs : List ℕ). xs ++ zs) (came_not (arrives w n) n (sym is ∙ none))))

-- the turns that may come, from initiators and commands by their numbers, and what comes behind them
turns : List ℕ → List ℕ → List Pick → List Pick
turns froms cs last = map Arrive froms ++ (map Work cs ++ last)

map-twice : (ms : List Member) → map Work (map (λ (m : Member). m.task.c) ms) ≡ map (λ (m : Member). Work m.task.c) ms
map-twice [] = refl
map-twice (m ∷ ms) = ap (λ (rest : List Pick). Work m.task.c ∷ rest) (map-twice ms)

-- of the lists of what may come three can have members where no move is in flight
pub able-is : (s : Scene) (w : Waiting) → s.back.flights ≡ []
    → able s w ≡ map Arrive (filter (arrives w) initiators) ++ (map (λ (m : Member). Work m.task.c) (filter (is_able s) s.hist.set) ++ able_destage s w)
able-is s w none =
    let commands : List Pick = map (λ (m : Member). Work m.task.c) (filter (is_able s) s.hist.set) in
    ap (λ (fs : List Flight). map Arrive (filter (arrives w) initiators) ++ (commands ++ (map (λ (f : Flight). Job f.j) fs ++ able_destage s w))) none

-- and two where no destage is asked for
pub able-quiet : (s : Scene) (w : Waiting) → s.back.flights ≡ [] → w.destages ≡ false
    → able s w ≡ map Arrive (filter (arrives w) initiators) ++ map (λ (m : Member). Work m.task.c) (filter (is_able s) s.hist.set)
able-quiet s w none quiet =
    let commands : List Pick = map (λ (m : Member). Work m.task.c) (filter (is_able s) s.hist.set) in
    able-is s w none
    ∙ ap (λ (b : Bool). map Arrive (filter (arrives w) initiators) ++ (commands ++ cond (b && is_some (destaged s)) (Destage ∷ []) [])) quiet
    ∙ ap (λ (zs : List Pick). map Arrive (filter (arrives w) initiators) ++ zs) (append-nil commands)

-- a move in flight may come
pub able-moving : (s : Scene) (w : Waiting) → 0 < length s.back.flights → 0 < length (able s w)
able-moving s w some =
    let moves : List Pick = map (λ (f : Flight). Job f.j) s.back.flights in
    let commands : List Pick = map (λ (m : Member). Work m.task.c) (filter (is_able s) s.hist.set) in
    omega (
      arith,
      some,
      length-map s.back.flights (λ (f : Flight). Job f.j),
      length-append (map Arrive (filter (arrives w) initiators)) (commands ++ (moves ++ able_destage s w)),
      length-append commands (moves ++ able_destage s w),
      length-append moves (able_destage s w),
    )

-- the turn of a number among them, while no move is in flight
pub record Among (s : Scene) (w : Waiting) (froms cs : List ℕ) : Type 0 where
  pub flightless : s.back.flights ≡ []
  pub arrivals : froms ≡ filter (arrives w) initiators
  pub commands : cs ≡ map (λ (m : Member). m.task.c) (filter (is_able s) s.hist.set)

-- what may come behind commands is a destage
only_destage : (t : Bool) → 0 < length (cond t (Destage ∷ []) []) → cond t (Destage ∷ []) [] ≡ Destage ∷ []
only_destage true some = refl
only_destage false some = absurd (omega arith)

module _ (s : Scene) (w : Waiting) (froms cs : List ℕ) (among : Among s w froms cs) (x : ℕ) where
  -- as many as may come
  abbrev count : ℕ
  count = length froms + length cs + length (able_destage s w)

  are : able s w ≡ turns froms cs (able_destage s w)
  unfolding turns
  are =
      able-is s w among.flightless
      ∙ (ap (λ (zs : List Pick). map Arrive (filter (arrives w) initiators) ++ (zs ++ able_destage s w)) (sym (map-twice (filter (is_able s) s.hist.set)))
      ∙ (ap (λ (zs : List ℕ). map Arrive (filter (arrives w) initiators) ++ (map Work zs ++ able_destage s w)) (sym among.commands)
      ∙ ap (λ (zs : List ℕ). map Arrive zs ++ (map Work cs ++ able_destage s w)) (sym among.arrivals)))

  long : length (turns froms cs (able_destage s w)) ≡ length froms + length cs + length (able_destage s w)
  unfolding turns
  long = omega (
    arith,
    length-append (map Arrive froms) (map Work cs ++ able_destage s w),
    length-append (map Work cs) (able_destage s w),
    length-map froms Arrive,
    length-map cs Work,
  )

  picks : picked s w x ≡ slice_get (turns froms cs (able_destage s w)) (x % count)
  picks =
      ap (λ (zs : List Pick). slice_get zs (x % length zs)) are ∙ ap (λ (n : ℕ). slice_get (turns froms cs (able_destage s w)) (x % n)) long

  -- none where none may come
  pub picks-none : length froms + length cs + length (able_destage s w) ≡ 0 → None ≡ picked s w x
  picks-none none = sym (picks ∙ empty (turns froms cs (able_destage s w)) (x % count) (long ∙ none))
    where
      empty : (zs : List Pick) (k : ℕ) → length zs ≡ 0 → slice_get zs k ≡ None
      empty [] k is = refl
      empty (z ∷ zs) k is = absurd (omega arith)

  pub picks-arrival : (d : ℕ) → x % count < length froms → Some (Arrive (get_or froms (x % count) d)) ≡ picked s w x
  unfolding turns
  picks-arrival d low =
      let k : ℕ = x % count in
      let there : slice_get (turns froms cs (able_destage s w)) k ≡ Some (get_or (turns froms cs (able_destage s w)) k (Arrive d)) =
      slice_get-get_or (turns froms cs (able_destage s w)) k (Arrive d) (omega (arith, long)) in
      let left : get_or (turns froms cs (able_destage s w)) k (Arrive d) ≡ get_or (map Arrive froms) k (Arrive d) =
      get_or_append_left (map Arrive froms) (map Work cs ++ able_destage s w) (Arrive d) k (omega (arith, length-map froms Arrive)) in
      sym (picks ∙ (there ∙ ap Some (left ∙ get_or-map Arrive froms k d (Arrive d) low)))

  -- behind the arrivals
  behind : (d : Pick) → length froms ≤ x % count → x % count < count → picked s w x ≡ Some (get_or (map Work cs ++ able_destage s w) (x % count - length froms) d)
  unfolding turns
  behind d past inside =
      let k : ℕ = x % count in
      let n : ℕ = x % count - length froms in
      let there : slice_get (turns froms cs (able_destage s w)) k ≡ Some (get_or (turns froms cs (able_destage s w)) k d) =
      slice_get-get_or (turns froms cs (able_destage s w)) k d (omega (arith, long)) in
      let split : k ≡ length (map Arrive froms) + n = omega (arith, length-map froms Arrive) in
      let right : get_or (turns froms cs (able_destage s w)) k d ≡ get_or (map Work cs ++ able_destage s w) n d =
      ap (λ (i : ℕ). get_or (map Arrive froms ++ (map Work cs ++ able_destage s w)) i d) split ∙ get_or-append-add (map Arrive froms) (map Work cs ++ able_destage s w) n d in
      picks ∙ (there ∙ ap Some right)

  pub picks-work : length froms ≤ x % count → x % count < count → x % count - length froms < length cs
      → Some (Work (get_or cs (x % count - length froms) 0)) ≡ picked s w x
  picks-work past inside low =
      let n : ℕ = x % count - length froms in
      let left : get_or (map Work cs ++ able_destage s w) n (Work 0) ≡ get_or (map Work cs) n (Work 0) =
      get_or_append_left (map Work cs) (able_destage s w) (Work 0) n (omega (arith, length-map cs Work)) in
      sym (behind (Work 0) past inside ∙ ap Some (left ∙ get_or-map Work cs n 0 (Work 0) low))

  pub picks-destage : length froms ≤ x % count → x % count < count → length cs ≤ x % count - length froms → Some Destage ≡ picked s w x
  picks-destage past inside high =
      let n : ℕ = x % count - length froms in
      let only : able_destage s w ≡ Destage ∷ [] = only_destage (w.destages && is_some (destaged s)) (omega arith) in
      let first : n ≡ length (map Work cs) + 0 = omega (arith, length-map cs Work, ap length only) in
      let right : get_or (map Work cs ++ able_destage s w) n Destage ≡ get_or (able_destage s w) 0 Destage =
      ap (λ (i : ℕ). get_or (map Work cs ++ able_destage s w) i Destage) first ∙ get_or-append-add (map Work cs) (able_destage s w) 0 Destage in
      sym (behind Destage past inside ∙ ap Some (right ∙ ap (λ (zs : List Pick). get_or zs 0 Destage) only))

-- the same, by what the calls of the walk say
pub record Counts (s : Scene) (w : Waiting) (froms cs : List ℕ) (a b l : ℕ) : Type 0 where
  pub among : Among s w froms cs
  pub arrivals : a ≡ length froms
  pub commands : b ≡ length cs
  pub destages : l ≡ length (able_destage s w)

pub none-picked : (s : Scene) (w : Waiting) (x : ℕ) (froms cs : List ℕ) (a b l : ℕ) → Counts s w froms cs a b l → a + b + l ≡ 0 → None ≡ picked s w x
none-picked s w x froms cs a b l counts none =
    picks-none s w froms cs counts.among x (omega (arith, none, counts.arrivals, counts.commands, counts.destages))

pub arrival-picked : (s : Scene) (w : Waiting) (x : ℕ) (froms cs ds : List ℕ) (a b l n i : ℕ) → Counts s w froms cs a b l
    → n ≡ length froms → ds ≡ froms → i ≡ get_or ds (x % (a + b + l)) i → x % (a + b + l) < n → Some (Arrive i) ≡ picked s w x
arrival-picked s w x froms cs ds a b l n i counts n_is same is low =
    let k_is : x % (a + b + l) ≡ x % (length froms + length cs + length (able_destage s w)) = λ j. x % (counts.arrivals j + counts.commands j + counts.destages j) in
    let at : i ≡ get_or froms (x % (length froms + length cs + length (able_destage s w))) i = is ∙ (λ j. get_or (same j) (k_is j) i) in
    ap (λ (v : ℕ). Some (Arrive v)) at ∙ picks-arrival s w froms cs counts.among x i (omega (arith, k_is, low, n_is))

work-picked : (s : Scene) (w : Waiting) (x : ℕ) (froms cs ds : List ℕ) (a b l n m : ℕ) → Counts s w froms cs a b l
    → n ≡ length froms → m ≡ length cs → ds ≡ cs → n ≤ x % (a + b + l) → x % (a + b + l) < a + b + l → x % (a + b + l) - n < m
    → Some (Work (get_or ds (x % (a + b + l) - n) 0)) ≡ picked s w x
work-picked s w x froms cs ds a b l n m counts n_is m_is same past inside low =
    let k_is : x % (a + b + l) ≡ x % (length froms + length cs + length (able_destage s w)) = λ j. x % (counts.arrivals j + counts.commands j + counts.destages j) in
    let at : get_or ds (x % (a + b + l) - n) 0 ≡ get_or cs (x % (length froms + length cs + length (able_destage s w)) - length froms) 0 =
    λ j. get_or (same j) (k_is j - n_is j) 0 in
    ap (λ (v : ℕ). Some (Work v)) at
    ∙ picks-work s w froms cs counts.among x (omega (arith, k_is, past, n_is)) (omega (arith, k_is, inside, counts.arrivals, counts.commands, counts.destages))
    (omega (arith, k_is, low, n_is, m_is))

destage-picked : (s : Scene) (w : Waiting) (x : ℕ) (froms cs : List ℕ) (a b l n m : ℕ) → Counts s w froms cs a b l
    → n ≡ length froms → m ≡ length cs → n ≤ x % (a + b + l) → x % (a + b + l) < a + b + l → m ≤ x % (a + b + l) - n → Some Destage ≡ picked s w x
destage-picked s w x froms cs a b l n m counts n_is m_is past inside high =
    let k_is : x % (a + b + l) ≡ x % (length froms + length cs + length (able_destage s w)) = λ j. x % (counts.arrivals j + counts.commands j + counts.destages j) in
    picks-destage s w froms cs counts.among x (omega (arith, k_is, past, n_is)) (omega (arith, k_is, inside, counts.arrivals, counts.commands, counts.destages))
    (omega (arith, k_is, high, n_is, m_is))

pub behind-picked : (s : Scene) (w : Waiting) (x : ℕ) (froms cs ds : List ℕ) (a b l n : ℕ) → Counts s w froms cs a b l
    → n ≡ length froms → ds ≡ cs → n ≤ x % (a + b + l) → x % (a + b + l) < a + b + l
    → Some (cond (ltb (x % (a + b + l) - n) (length ds)) (Work (get_or ds (x % (a + b + l) - n) 0)) Destage) ≡ picked s w x
behind-picked s w x froms cs ds a b l n counts n_is same past inside = by (ltb (x % (a + b + l) - n) (length ds)) refl
  where
    by : (t : Bool) → ltb (x % (a + b + l) - n) (length ds) ≡ t → Some (cond t (Work (get_or ds (x % (a + b + l) - n) 0)) Destage) ≡ picked s w x
    by true low =
        work-picked s w x froms cs ds a b l n (length ds) counts n_is (ap length same) same past inside (ltb-true (x % (a + b + l) - n) (length ds) low)
    by false high =
        destage-picked s w x froms cs a b l n (length ds) counts n_is (ap length same) past inside (ltb-false (x % (a + b + l) - n) (length ds) high)

-- a command picked where nothing waits outside
pub any-picked : (s : Scene) (x n : ℕ) (cs : List ℕ) → s.back.flights ≡ [] → cs ≡ map (λ (m : Member). m.task.c) (filter (is_able s) s.hist.set) → n ≡ length cs → 0 < n → x % n < n
    → Some (Work (get_or cs (x % n) 0)) ≡ picked s nothing_waiting x
any-picked s x n cs none is n_is some inside =
    let all : able s nothing_waiting ≡ map Work cs = able-quiet s nothing_waiting none refl ∙ sym (ap (map Work) is ∙ map-twice (filter (is_able s) s.hist.set)) in
    let long : length (able s nothing_waiting) ≡ n = ap length all ∙ (length-map cs Work ∙ sym n_is) in
    let there : slice_get (map Work cs) (x % n) ≡ Some (get_or (map Work cs) (x % n) (Work 0)) =
    slice_get-get_or (map Work cs) (x % n) (Work 0) (omega (arith, length-map cs Work)) in
    sym ((λ i. slice_get (all i) (x % long i)) ∙ (there ∙ ap Some (get_or-map Work cs (x % n) 0 (Work 0) (omega arith))))

map-chosen : (b : Bool) (m : Member) → map (λ (x : Member). x.task.c) (cond b (m ∷ []) []) ≡ cond b (m.task.c ∷ []) []
map-chosen true m = refl
map-chosen false m = refl

-- one more command of the set
pub record IsNext (s : Scene) (members : List Member) (i : ℕ) (m : Member) (r : Option TurnAnswer) : Type 0 where
  pub set : members ≡ s.hist.set
  pub inside : i < length members
  pub there : m ≡ get_or members i m
  pub refused : r ≡ work_refused s m.task.c m

able_more : (s : Scene) (members : List Member) (i : ℕ) (m : Member) (r : Option TurnAnswer) (cs : List ℕ) → IsNext s members i m r
    → cs ≡ map (λ (x : Member). x.task.c) (filter (is_able s) (take i s.hist.set))
    → cs ++ cond (is_none r) (m.task.c ∷ []) [] ≡ map (λ (x : Member). x.task.c) (filter (is_able s) (take (i + 1) s.hist.set))
able_more s members i m r cs next so_far =
    let there : m ≡ get_or s.hist.set i m = next.there ∙ ap (λ (ms : List Member). get_or ms i m) next.set in
    let inside : i < length s.hist.set = subst (λ (ms : List Member). i < length ms) next.set next.inside in
    let one : filter (is_able s) (take (i + 1) s.hist.set) ≡ filter (is_able s) (take i s.hist.set) ++ cond (is_able s m) (m ∷ []) [] =
    filter_more (is_able s) s.hist.set i m inside
    ∙ ap (λ (x : Member). filter (is_able s) (take i s.hist.set) ++ cond (is_able s x) (x ∷ []) []) (sym there) in
    ap (λ (zs : List ℕ). zs ++ cond (is_none r) (m.task.c ∷ []) []) so_far
    ∙ (ap (λ (o : Option TurnAnswer). map (λ (x : Member). x.task.c) (filter (is_able s) (take i s.hist.set)) ++ cond (is_none o) (m.task.c ∷ []) []) next.refused
    ∙ sym (ap (map (λ (x : Member). x.task.c)) one
    ∙ (map-append (λ (x : Member). x.task.c) (filter (is_able s) (take i s.hist.set)) (cond (is_able s m) (m ∷ []) [])
    ∙ ap (λ (zs : List ℕ). map (λ (x : Member). x.task.c) (filter (is_able s) (take i s.hist.set)) ++ zs) (map-chosen (is_able s m) m))))

pub able-one : (s : Scene) (members : List Member) (i : ℕ) (m : Member) (r : Option TurnAnswer) (cs ds : List ℕ) → IsNext s members i m r
    → cs ≡ map (λ (x : Member). x.task.c) (filter (is_able s) (take i s.hist.set)) → is_none r ≡ true → ds ≡ cs ++ m.task.c ∷ []
    → ds ≡ map (λ (x : Member). x.task.c) (filter (is_able s) (take (i + 1) s.hist.set))
able-one s members i m r cs ds next so_far none more =
    more ∙ (ap (λ (b : Bool). cs ++ cond b (m.task.c ∷ []) []) (sym none) ∙ able_more s members i m r cs next so_far)

pub able-none : (s : Scene) (members : List Member) (i : ℕ) (m : Member) (r : Option TurnAnswer) (cs ds : List ℕ) → IsNext s members i m r
    → cs ≡ map (λ (x : Member). x.task.c) (filter (is_able s) (take i s.hist.set)) → is_none r ≡ false → ds ≡ cs
    → ds ≡ map (λ (x : Member). x.task.c) (filter (is_able s) (take (i + 1) s.hist.set))
able-none s members i m r cs ds next so_far some same =
    same ∙ (sym (append-nil cs) ∙ (ap (λ (b : Bool). cs ++ cond b (m.task.c ∷ []) []) (sym some) ∙ able_more s members i m r cs next so_far))

none_is : (o : Option TurnAnswer) → is_none o ≡ true → o ≡ None
none_is None is = refl
none_is (Some x) is = absurd (cc)

-- work on it isn't refused
pub free-one : (s : Scene) (set : List Member) (m : Member) (r : Option TurnAnswer) → set ≡ s.hist.set → member_of set m.task.c ≡ Some m
    → r ≡ work_refused s m.task.c m → is_none r ≡ true → refusal_of_work s 0 m.task.c ≡ None
free-one s set m r same is refused none = sym (refusal-is s set m.task.c 0 m same is) ∙ (sym refused ∙ none_is r none)

-- what a test for none says
pub tells_none : (o : Option TurnAnswer) (b t : Bool) → is_some o ≡ not b → b ≡ t → is_none o ≡ t
tells_none None true t is b_is = b_is
tells_none None false t is b_is = absurd (cc)
tells_none (Some x) true t is b_is = absurd (cc)
tells_none (Some x) false t is b_is = b_is
