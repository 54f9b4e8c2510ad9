-- Histories that a script allows, and those that break one rule of the walk.
use Rattle.std.proofs.Common.{◌≡◌, refl, ℕ, true, [], ◌∷◌, ◌++◌, List}
use Rattle.disk_base.specs.declared.command.Attribute.TheVariants.{Simple}
use Rattle.disk_base.specs.declared.command.DataOut.TheVariants.{Nothing}
use Rattle.disk_base.specs.declared.command.Function.TheVariants.{AbortSet, Clear}
use Rattle.cdb_reader.specs.Operation.{operation_of}
use Rattle.platter_model.specs.declared.damage.Left.TheVariants.{Old}
use Rattle.platter_model.specs.declared.world.World.{World as Event}
use Rattle.platter_model.specs.declared.world.World.TheVariants as event
use Rattle.block_machine.specs.declared.entry.Entry.{Entry}
use Rattle.block_machine.specs.declared.entry.Entry.TheVariants.{Cut, PoweredOn, Tick}
use Rattle.block_machine.specs.declared.entry.Recovered.TheVariants.{Ready}
use Rattle.block_machine.specs.declared.turn.Label.TheVariants as label
use Rattle.block_machine.specs.declared.turn.Turn.{Turn}
use Rattle.block_machine.proofs.Building.{asks, at_once, comes, cut, destages, fails, get, good, minutes, moves, power, read, starts, test_unit_ready, turn, works}
use Rattle.script_text.specs.declared.script.Line.{Line}
use Rattle.script_text.specs.declared.script.Line.TheVariants.{Command, Function, Scan, Destage, Go, World}
use Rattle.history_checker.specs.declared.verdict.Flaw.TheVariants.{Order, Step, Left}
use Rattle.history_checker.specs.declared.verdict.Verdict.{Verdict}
use Rattle.history_checker.specs.declared.verdict.Verdict.TheVariants.{Yes, No}
use Rattle.history_checker.specs.Good.{is_good, verdict_by}

-- a SIMPLE command of an initiator, under a tag
abbrev cmd : ℕ → ℕ → List ℕ → Line
cmd i t cdb = Command i (record { 0 = t }) Simple cdb Nothing

abbrev ready : ℕ → ℕ → Line
ready i t = cmd i t test_unit_ready

-- TEST UNIT READY, and then a READ of block 0
abbrev row : List Line
row = ready 1 1 ∷ Go ∷ cmd 1 2 (read 0 1) ∷ Go ∷ []

-- an initiator's TEST UNIT READY comes, and its first is told that the power came on
abbrev sent : ℕ → ℕ → Turn
sent c i = comes c i test_unit_ready

abbrev told : ℕ → Turn
told c = at_once c (fails c 6 0x29 0x01 ∷ [])

abbrev done : ℕ → Turn
done c = at_once c (good c ∷ [])

abbrev first : List Turn
first = sent 1 1 ∷ told 1 ∷ []

abbrev verdict : List Line → List Turn → Verdict
verdict lines turns = verdict_by 912 lines turns

-- the worked history
row_good : is_good 912 row (first ++ comes 2 1 (read 0 1) ∷ starts 2 ∷ works 2 (get 2 0 0 ∷ good 2 ∷ []) ∷ []) ≡ true
unfolding operation_of
row_good = refl

row_yes : verdict row (first ++ comes 2 1 (read 0 1) ∷ starts 2 ∷ works 2 (get 2 0 0 ∷ good 2 ∷ []) ∷ []) ≡ Yes
unfolding operation_of
row_yes = refl

row_of_ones : verdict row (first ++ comes 2 1 (read 0 1) ∷ starts 2 ∷ works 2 (get 2 0 1 ∷ good 2 ∷ []) ∷ []) ≡ No 5 Step
unfolding operation_of
row_of_ones = refl

row_left : verdict row first ≡ No 3 Left
unfolding operation_of
row_left = refl

-- scripts that ask for nothing
nothing_yes : verdict [] [] ≡ Yes
nothing_yes = refl

scan_yes : verdict (Scan 3 ∷ Go ∷ []) [] ≡ Yes
scan_yes = refl

-- an arrival is its initiator's next line
another_tag : verdict (ready 1 2 ∷ Go ∷ []) first ≡ No 1 Order
another_tag = refl

the_second_first : verdict (cmd 1 2 (read 0 1) ∷ ready 1 1 ∷ Go ∷ []) first ≡ No 1 Order
the_second_first = refl

another_initiator : verdict (ready 1 1 ∷ Go ∷ []) (sent 1 2 ∷ []) ≡ No 1 Order
another_initiator = refl

another_function : verdict (Function 1 AbortSet ∷ Go ∷ []) (asks 1 Clear [] ∷ []) ≡ No 1 Order
another_function = refl

the_same_function : verdict (Function 1 Clear ∷ Go ∷ []) (asks 1 Clear [] ∷ []) ≡ Yes
the_same_function = refl

one_more : verdict (ready 1 1 ∷ Go ∷ []) (first ++ sent 2 1 ∷ []) ≡ No 3 Order
unfolding operation_of
one_more = refl

-- the initiators' lines of a phase come in any order
interleaved : verdict (ready 1 2 ∷ ready 2 1 ∷ Go ∷ []) (sent 1 2 ∷ sent 2 1 ∷ told 1 ∷ told 2 ∷ []) ≡ Yes
unfolding operation_of
interleaved = refl

-- a line of the next phase waits for those of this one, and until no command is in
next_while_in : verdict (ready 1 1 ∷ Go ∷ ready 2 2 ∷ Go ∷ []) (sent 1 1 ∷ sent 2 2 ∷ []) ≡ No 2 Order
unfolding operation_of
next_while_in = refl

next_while_left : verdict (ready 1 1 ∷ ready 2 2 ∷ Go ∷ ready 1 2 ∷ Go ∷ []) (first ++ sent 2 1 ∷ []) ≡ No 3 Order
unfolding operation_of
next_while_left = refl

-- what happens from outside is the script's next world line, and waits for the phases before it
abbrev five : Line
five = World (event.Minutes 5)

minutes_yes : verdict (five ∷ []) (minutes 5 ∷ []) ≡ Yes
minutes_yes = refl

another_world : verdict (World event.Power ∷ []) (minutes 5 ∷ []) ≡ No 1 Order
another_world = refl

one_world_more : verdict (five ∷ []) (minutes 5 ∷ minutes 5 ∷ []) ≡ No 2 Order
one_world_more = refl

world_left : verdict (five ∷ five ∷ []) (minutes 5 ∷ []) ≡ No 2 Left
world_left = refl

world_while_in : verdict (ready 1 1 ∷ Go ∷ five ∷ []) (sent 1 1 ∷ minutes 5 ∷ told 1 ∷ []) ≡ No 2 Order
unfolding operation_of
world_while_in = refl

world_before_lines : verdict (ready 1 1 ∷ Go ∷ five ∷ []) (minutes 5 ∷ first) ≡ No 1 Order
world_before_lines = refl

arrival_before_world : verdict (five ∷ ready 1 1 ∷ Go ∷ []) (first ++ minutes 5 ∷ []) ≡ No 1 Order
arrival_before_world = refl

world_then_phase : verdict (five ∷ ready 1 1 ∷ Go ∷ []) (minutes 5 ∷ first) ≡ Yes
unfolding operation_of
world_then_phase = refl

-- `cut now` cuts where it finds the power on, once
abbrev cut_now : Line
cut_now = World event.Cut

abbrev outside : Event → List Entry → Turn
outside what entries = turn (label.World what) entries

cut_yes : verdict (cut_now ∷ []) (cut ∷ []) ≡ Yes
cut_yes = refl

cut_without_a_cut : verdict (cut_now ∷ []) (outside event.Cut [] ∷ []) ≡ No 1 Order
cut_without_a_cut = refl

cut_twice_in_a_turn : verdict (cut_now ∷ []) (outside event.Cut (Cut ∷ Cut ∷ []) ∷ []) ≡ No 1 Order
cut_twice_in_a_turn = refl

cut_while_off : verdict (cut_now ∷ cut_now ∷ []) (cut ∷ cut ∷ []) ≡ No 2 Order
cut_while_off = refl

cut_while_off_yes : verdict (cut_now ∷ cut_now ∷ []) (cut ∷ outside event.Cut [] ∷ []) ≡ Yes
cut_while_off_yes = refl

-- elsewhere a cut is one that was armed, and none came since
abbrev arm : Event
arm = event.Arm 1 (record { left = Old; scar = 0 })

abbrev armed : List Turn
armed = outside arm [] ∷ []

cut_armed : verdict (World arm ∷ ready 1 1 ∷ Go ∷ []) (armed ++ sent 1 1 ∷ moves 1 (Cut ∷ []) ∷ []) ≡ Yes
unfolding operation_of
cut_armed = refl

cut_not_armed : verdict (ready 1 1 ∷ Go ∷ []) (sent 1 1 ∷ moves 1 (Cut ∷ []) ∷ []) ≡ No 2 Order
unfolding operation_of
cut_not_armed = refl

abbrev on_again : Turn
on_again = power (Ready 2)

cut_armed_once : verdict (World arm ∷ ready 1 1 ∷ Go ∷ World event.Power ∷ ready 1 2 ∷ Go ∷ [])
    (armed ++ sent 1 1 ∷ moves 1 (Cut ∷ []) ∷ on_again ∷ sent 2 1 ∷ moves 1 (Cut ∷ []) ∷ []) ≡ No 6 Order
unfolding operation_of
cut_armed_once = refl

cut_twice_armed : verdict (World arm ∷ ready 1 1 ∷ Go ∷ []) (armed ++ sent 1 1 ∷ moves 1 (Cut ∷ Cut ∷ []) ∷ []) ≡ No 3 Order
unfolding operation_of
cut_twice_armed = refl

cut_in_minutes : verdict (World arm ∷ five ∷ []) (armed ++ outside (event.Minutes 5) (Cut ∷ []) ∷ []) ≡ No 2 Order
cut_in_minutes = refl

cut_in_cut_write : verdict (World arm ∷ World arm ∷ []) (armed ++ outside arm (Cut ∷ []) ∷ []) ≡ No 2 Order
cut_in_cut_write = refl

cut_in_work_while_off : verdict (World arm ∷ cut_now ∷ World arm ∷ []) (armed ++ cut ∷ outside arm [] ∷ moves 1 (Cut ∷ []) ∷ []) ≡ No 4 Order
cut_in_work_while_off = refl

-- a cut that was armed while the power is off, or kept over a `cut now` that finds it off, may come as the power does
cut_in_power : verdict (cut_now ∷ World arm ∷ cut_now ∷ World event.Power ∷ [])
    (cut ∷ outside arm [] ∷ outside event.Cut [] ∷ outside event.Power (Cut ∷ []) ∷ []) ≡ Yes
cut_in_power = refl

cut_in_power_not_armed : verdict (cut_now ∷ World event.Power ∷ []) (cut ∷ outside event.Power (Cut ∷ []) ∷ []) ≡ No 2 Order
cut_in_power_not_armed = refl

-- an arm is used up by the next cut, whichever it is
arm_used_by_cut_now : verdict (World arm ∷ cut_now ∷ World event.Power ∷ []) (armed ++ cut ∷ outside event.Power (Cut ∷ []) ∷ []) ≡ No 3 Order
arm_used_by_cut_now = refl

-- the power comes back in `power` while it is off, once or not at all
power_yes : verdict (cut_now ∷ World event.Power ∷ []) (cut ∷ on_again ∷ []) ≡ Yes
power_yes = refl

power_while_on : verdict (World event.Power ∷ []) (on_again ∷ []) ≡ No 1 Order
power_while_on = refl

power_while_on_yes : verdict (World event.Power ∷ []) (outside event.Power [] ∷ []) ≡ Yes
power_while_on_yes = refl

power_without_its_outcome : verdict (cut_now ∷ World event.Power ∷ []) (cut ∷ outside event.Power [] ∷ []) ≡ No 2 Order
power_without_its_outcome = refl

power_in_work : verdict (cut_now ∷ []) (cut ∷ moves 1 (PoweredOn (Ready 2) ∷ []) ∷ []) ≡ No 2 Order
power_in_work = refl

power_and_cut : verdict (World arm ∷ cut_now ∷ World arm ∷ World event.Power ∷ [])
    (armed ++ cut ∷ outside arm [] ∷ outside event.Power (PoweredOn (Ready 2) ∷ Cut ∷ []) ∷ []) ≡ No 4 Order
power_and_cut = refl

-- minutes pass in `minutes` while the power is on: so many, once
tick_missing : verdict (five ∷ []) (outside (event.Minutes 5) [] ∷ []) ≡ No 1 Order
tick_missing = refl

tick_of_another_number : verdict (five ∷ []) (outside (event.Minutes 5) (Tick 4 ∷ []) ∷ []) ≡ No 1 Order
tick_of_another_number = refl

tick_twice : verdict (five ∷ []) (outside (event.Minutes 5) (Tick 5 ∷ Tick 5 ∷ []) ∷ []) ≡ No 1 Order
tick_twice = refl

tick_while_off : verdict (cut_now ∷ five ∷ []) (cut ∷ minutes 5 ∷ []) ≡ No 2 Order
tick_while_off = refl

tick_in_work : verdict [] (moves 1 (Tick 5 ∷ []) ∷ []) ≡ No 1 Order
tick_in_work = refl

-- a phase is done while the power is off, and those behind it up to the next world line
phases_with_a_cut : verdict (World arm ∷ ready 1 1 ∷ ready 2 2 ∷ Go ∷ ready 1 3 ∷ Go ∷ World event.Power ∷ ready 1 2 ∷ Go ∷ [])
    (armed ++ sent 1 1 ∷ moves 1 (Cut ∷ []) ∷ on_again ∷ sent 2 1 ∷ told 2 ∷ []) ≡ Yes
unfolding operation_of
phases_with_a_cut = refl

arrival_while_off : verdict (World arm ∷ ready 1 1 ∷ ready 2 2 ∷ Go ∷ []) (armed ++ sent 1 1 ∷ moves 1 (Cut ∷ []) ∷ sent 2 2 ∷ []) ≡ No 4 Order
unfolding operation_of
arrival_while_off = refl

-- a cut in the first phase of four, line by line in docs/MODEL.md
cut_and_on : verdict (World arm ∷ ready 1 1 ∷ ready 2 2 ∷ Destage 1 ∷ Go ∷ ready 1 3 ∷ Go ∷ five ∷ World event.Power ∷ ready 1 2 ∷ Go ∷ [])
    (armed ++ sent 1 1 ∷ destages (Cut ∷ []) ∷ outside (event.Minutes 5) [] ∷ on_again ∷ sent 2 1 ∷ told 2 ∷ []) ≡ Yes
unfolding operation_of
cut_and_on = refl

-- the end: every phase is done
lines_left_over : verdict (ready 1 1 ∷ ready 2 2 ∷ Go ∷ []) first ≡ No 3 Left
unfolding operation_of
lines_left_over = refl

a_command_in : verdict (ready 1 1 ∷ Go ∷ []) (sent 1 1 ∷ []) ≡ No 2 Left
unfolding operation_of
a_command_in = refl

-- both in one turn: the order is looked at first
both_flaws : verdict (ready 1 1 ∷ Go ∷ []) (comes 3 1 (read 0 1) ∷ []) ≡ No 1 Order
both_flaws = refl

another_number : verdict (ready 1 2 ∷ Go ∷ []) (comes 2 1 test_unit_ready ∷ []) ≡ No 1 Step
another_number = refl
