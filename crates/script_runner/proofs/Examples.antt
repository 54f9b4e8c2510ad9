-- Examples of phases, of the order of turns, and of turns that carry lines out.
use Rattle.std.proofs.Common.{◌≡◌, refl, ℕ, ◌+◌, ◌*◌, true, false, List, [], ◌∷◌, arith, length, Some, None}
use Rattle.disk_base.specs.declared.command.Attribute.TheVariants.{Simple}
use Rattle.disk_base.specs.declared.command.DataOut.TheVariants.{Nothing}
use Rattle.read_recovery.specs.Stages.{stages_of}
use Rattle.cdb_reader.specs.Operation.{operation_of}
use Rattle.cdb_reader.specs.declared.plan.Plan.TheVariants.{Reading, Syncing, Over}
use Rattle.block_machine.specs.declared.entry.Entry.TheVariants.{Arrived, Harden}
use Rattle.block_machine.specs.declared.entry.Who.TheVariants.{Drive}
use Rattle.block_machine.specs.declared.turn.Label.TheVariants as label
use Rattle.block_machine.specs.Attentions.{attentions_at_start}
use Rattle.block_machine.specs.State.{state_at_start}
use Rattle.platter_model.specs.declared.world.World.TheVariants as world
use Rattle.script_text.specs.declared.script.Line.{Line}
use Rattle.script_text.specs.declared.script.Line.TheVariants.{Command, Scan, Destage, Go, World}
use Rattle.drive_scene.specs.declared.event.Arrival.{Arrival}
use Rattle.drive_scene.specs.declared.event.Arrival.TheVariants as arrival
use Rattle.drive_scene.specs.Background.{background_at_start}
use Rattle.drive_scene.specs.Scene.{Scene, Beat}
use Rattle.drive_scene.specs.After.{scene_after}
use Rattle.drive_scene.specs.Holds.{destaged}
use Rattle.script_runner.specs.Arrivals.{arriving, sends_of, lines_of, arrived_in}
use Rattle.script_runner.specs.Wanted.{Wanted, wanted_by, destages_in, left_of}
use Rattle.script_runner.specs.Order.{drawn, number_of}
use Rattle.script_runner.specs.Phase.{IsPhase, IsPicked, ByOrder}
use Rattle.script_runner.specs.CarriedOut.{CarryOut}
use Rattle.script_runner.specs.Measure.{steps_of, turns_of_move, turns_a_step, turns_of_scan, turns_of_line, turns_by_weight}

-- a READ (10) of block 0, under a tag
abbrev sent : ℕ → ℕ → Arrival
sent i t = arrival.Command (arriving i (record { 0 = t }) Simple (0x28 ∷ 0 ∷ 0 ∷ 0 ∷ 0 ∷ 0 ∷ 0 ∷ 0 ∷ 1 ∷ 0 ∷ []) Nothing)

abbrev line : ℕ → ℕ → Line
line i t = Command i (record { 0 = t }) Simple (0x28 ∷ 0 ∷ 0 ∷ 0 ∷ 0 ∷ 0 ∷ 0 ∷ 0 ∷ 1 ∷ 0 ∷ []) Nothing

abbrev came : ℕ → ℕ → ℕ → Beat
came c i t = record { label = label.Arrive i; entries = Arrived c i (record { 0 = t }) Simple (0x28 ∷ 0 ∷ 0 ∷ 0 ∷ 0 ∷ 0 ∷ 0 ∷ 0 ∷ 1 ∷ 0 ∷ []) Nothing ∷ []; ops = [] }

-- lines have an initiator send its own commands, in order; `go` and events from outside send nothing
of_first : lines_of (line 1 7 ∷ line 2 8 ∷ Go ∷ line 1 9 ∷ World world.Cut ∷ []) 1 ≡ sent 1 7 ∷ sent 1 9 ∷ []
of_first = refl

of_second : lines_of (line 1 7 ∷ line 2 8 ∷ Go ∷ line 1 9 ∷ World world.Cut ∷ []) 2 ≡ sent 2 8 ∷ []
of_second = refl

-- so do turns
in_turns : arrived_in 1 (came 1 1 7 ∷ came 2 2 8 ∷ came 3 1 9 ∷ []) ≡ sent 1 7 ∷ sent 1 9 ∷ []
in_turns = refl

abbrev both_wait : Wanted
both_wait = record { sends = sends_of ((sent 1 7 ∷ []) ∷ (sent 2 8 ∷ []) ∷ [] ∷ [] ∷ [] ∷ [] ∷ [] ∷ [] ∷ []); destages = 0 }

-- nothing but destages
abbrev destaging : ℕ → Wanted
destaging n = record { sends = λ i. []; destages = n }

-- a turn that hardens a block on the drive's own account
abbrev hardened : ℕ → Beat
hardened b = record { label = label.Destage; entries = Harden Drive (record { 0 = b }) ∷ []; ops = [] }

-- destages of several lines add up, and no other line asks for one
of_lines : (wanted_by (line 1 7 ∷ Destage 2 ∷ line 2 8 ∷ Destage 3 ∷ [])).destages ≡ 5
of_lines = refl

-- turns are counted by their label
among_turns : destages_in (came 1 1 7 ∷ hardened 4 ∷ came 2 2 8 ∷ hardened 5 ∷ []) ≡ 2
among_turns = refl

one_left : (left_of (destaging 2) (hardened 4 ∷ [])).destages ≡ 1
one_left = refl

-- numbers of an order that begins with 3
of_three : drawn (Some 3) ≡ Some 1163074432
of_three = refl

its_pick : number_of (Some 1163074432) ≡ 17747
its_pick = refl

-- none is drawn where no order is asked for
of_none : number_of (drawn None) ≡ 0
of_none = refl

-- a turn whose label is another event's isn't that event's
other_label : (t : Beat) (more : List Beat) → record { label = label.World world.Power; entries = []; ops = [] } ∷ [] ≡ t ∷ more
    → t.label ≡ label.World world.Cut → ⊥
other_label t more e l = cc

module _ (s : Scene) where
  abbrev fresh : Scene
  fresh = record s { hist = state_at_start attentions_at_start; back = background_at_start }

  -- of two that have something to send the first comes first, and then the second
  first_comes : IsPicked both_wait (record { scene = fresh; came = []; order = None }) (came 1 1 7)
  first_comes = refl

  second_waits : IsPicked both_wait (record { scene = fresh; came = []; order = None }) (came 1 2 8) → ⊥
  second_waits e = cc

  second_comes : IsPicked both_wait (record { scene = fresh; came = came 1 1 7 ∷ []; order = None }) (came 2 2 8)
  second_comes = refl

  -- by an order the number that is drawn for a turn picks it
  second_is_drawn : IsPicked both_wait (record { scene = fresh; came = []; order = Some 3 }) (came 1 2 8)
  second_is_drawn = refl

  first_is_not : IsPicked both_wait (record { scene = fresh; came = []; order = Some 3 }) (came 1 1 7) → ⊥
  first_is_not e = cc

  -- nothing comes where nothing waits
  none_comes : IsPicked (destaging 0) (record { scene = fresh; came = []; order = None }) (came 1 1 7) → ⊥
  none_comes e = cc

  -- no turns are a phase in which nothing is to be sent
  empty_phase : IsPhase fresh (destaging 0) []
  empty_phase = record { kinds = refl; arrivals = λ i. refl; destages = omega arith; none_left = λ fewer. absurd (omega arith); idle = refl }

  -- a phase that leaves what is to be sent is none
  left_out : IsPhase fresh both_wait [] → ⊥
  left_out phase = let e = phase.arrivals 1 in cc

  -- nor is one with other arrivals, or in another order
  another_order : IsPhase fresh (record { sends = sends_of ((sent 1 7 ∷ sent 1 9 ∷ []) ∷ []); destages = 0 }) (came 1 1 9 ∷ came 2 1 7 ∷ []) → ⊥
  another_order phase = let e = phase.arrivals 1 in cc

  -- nor one with a turn from outside in it
  from_outside : IsPhase fresh (destaging 0) (record { label = label.World world.Cut; entries = []; ops = [] } ∷ []) → ⊥
  from_outside phase = let e = phase.kinds in cc

  -- with a dirty block, and nothing held
  abbrev dirty : List ℕ → Scene
  dirty blocks = record s { hist = record (state_at_start attentions_at_start) { dirty = blocks }; back = background_at_start }

  -- a destage comes where one is asked for and a block is dirty, behind what arrives
  destage_comes : IsPicked (destaging 1) (record { scene = dirty (4 ∷ []); came = []; order = None }) (hardened 4)
  destage_comes = refl

  arrival_before : IsPicked (record both_wait { destages = 1 }) (record { scene = dirty (4 ∷ []); came = []; order = None }) (hardened 4) → ⊥
  arrival_before e = cc

  -- an order may pick it before: it is the third of three
  destage_is_drawn : IsPicked (record both_wait { destages = 1 }) (record { scene = dirty (4 ∷ []); came = []; order = Some 3 }) (hardened 4)
  destage_is_drawn = refl

  -- none comes where no block is dirty, where none is asked for, or where all that were asked for came
  none_dirty : IsPicked (destaging 1) (record { scene = dirty []; came = []; order = None }) (hardened 4) → ⊥
  none_dirty e = cc

  none_asked : IsPicked (destaging 0) (record { scene = dirty (4 ∷ []); came = []; order = None }) (hardened 4) → ⊥
  none_asked e = cc

  all_came : IsPicked (destaging 1) (record { scene = dirty (5 ∷ []); came = hardened 4 ∷ []; order = None }) (hardened 5) → ⊥
  all_came e = cc

  -- a phase has all that are asked for, where nothing else is dirty then
  one_destage : destaged (scene_after (dirty (4 ∷ [])) (hardened 4)) ≡ None → IsPhase (dirty (4 ∷ [])) (destaging 1) (hardened 4 ∷ [])
  one_destage none = record { kinds = refl; arrivals = λ i. refl; destages = omega arith; none_left = λ fewer. none; idle = refl }

  -- fewer only where no block can be destaged
  fewer_of_none : IsPhase (dirty []) (destaging 2) []
  fewer_of_none = record { kinds = refl; arrivals = λ i. refl; destages = omega arith; none_left = λ fewer. refl; idle = refl }

  passed_over : IsPhase (dirty (4 ∷ [])) (destaging 1) [] → ⊥
  passed_over phase = let e = phase.none_left (omega arith) in cc

  -- and never more
  one_too_many : IsPhase (dirty (4 ∷ [])) (destaging 0) (hardened 4 ∷ []) → ⊥
  one_too_many phase = let le = phase.destages in omega arith

  -- lines without any are carried out by no turn
  nothing_asked : CarryOut ByOrder None fresh [] [] []
  nothing_asked = record { phase = empty_phase; by_rule = tt }

  -- nor is a line that asks for destages where no block is dirty, but it is where one is
  nothing_dirty : CarryOut ByOrder None (dirty []) [] (Destage 2 ∷ Go ∷ []) []
  nothing_dirty = ([], [], refl, record { phase = fewer_of_none; by_rule = tt }, record { phase = record { kinds = refl; arrivals = λ i. refl; destages = omega arith; none_left = λ fewer. refl; idle = refl }; by_rule = tt })

  destage_left_out : CarryOut ByOrder None (dirty (4 ∷ [])) [] (Destage 1 ∷ []) [] → ⊥
  destage_left_out out = passed_over out.phase

  -- an event from outside needs its turn
  event_left_out : CarryOut ByOrder None fresh [] (World world.Cut ∷ []) [] → ⊥
  event_left_out out = let e = out.2 in cc

  -- with its label
  another_event : CarryOut ByOrder None fresh [] (World world.Cut ∷ []) (record { label = label.World world.Power; entries = []; ops = [] } ∷ []) → ⊥
  another_event out = other_label out.0 out.1 out.2 out.3

-- two entries a block that is read, and the end
of_a_read : steps_of (Reading (record { at = 3; end = 5; through = true; reports = false; hardened = false })) ≡ 6
of_a_read = refl

of_a_sync : steps_of (Syncing (record { at = 0; end = 912 })) ≡ 913
of_a_sync = refl

of_nothing : steps_of Over ≡ 0
of_nothing = refl

-- the turns of a move, from one entry of a command to its next, and of a step of the scan; a read has at most 25 stages
of_a_move : turns_of_move ≡ 257
of_a_move = refl

of_a_step : turns_a_step ≡ 309
of_a_step = refl

of_the_scan : turns_of_scan ≡ 282
of_the_scan = refl

all_stages : length (stages_of 20) ≡ 25
all_stages = refl

-- a READ of a block has five entries at most, its arrival and what its window and a move come to
of_a_read_line : turns_of_line 3984 (line 1 7) ≡ 1 + 309 * 5 + 308
unfolding operation_of
of_a_read_line = refl

of_scans : turns_of_line 3984 (Scan 7) ≡ 1974
of_scans = refl

-- a destage is one turn
of_destages : turns_of_line 3984 (Destage 7) ≡ 7
of_destages = refl

-- by its weight of 1, and by none
by_weight : turns_by_weight 3984 (line 1 7 ∷ []) ≡ 2163 + 19776
by_weight = refl

by_number : turns_by_weight 3984 (Go ∷ Go ∷ []) ≡ 4326
by_number = refl
