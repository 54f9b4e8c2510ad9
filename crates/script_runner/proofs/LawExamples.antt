-- What the laws on whole runs speak of happens: their premises are met in turns that were worked out by hand. Those of the laws on
-- histories are met beside these laws.
use Rattle.std.proofs.Common.{◌≡◌, ℕ, true, false, List, [], ◌∷◌, ◌++◌, map, pos, refl, arith}
use Rattle.std.specs.Prelude.{IsTrue, Ok}
use Rattle.std.proofs.lemmas.List.Elements.{All-nil, All-cons}
use Rattle.disk_base.specs.declared.block.Value.TheVariants.{Data, Lost}
use Rattle.disk_base.specs.declared.command.Attribute.TheVariants.{Simple}
use Rattle.disk_base.specs.declared.command.DataOut.TheVariants.{Nothing}
use Rattle.cdb_reader.specs.Operation.{operation_of}
use Rattle.cdb_reader.specs.Request as request
use Rattle.cdb_reader.specs.Replies.{same_reply, unrecovered_read}
use Rattle.block_machine.specs.declared.entry.Entry.TheVariants.{Started, Get, Ended}
use Rattle.block_machine.specs.declared.turn.Label.TheVariants.{Work}
use Rattle.block_machine.specs.declared.turn.Turn.{Turn}
use Rattle.block_machine.specs.History.{legal_from, entries_of}
use Rattle.block_machine.specs.Laws.{tally_of}
use Rattle.block_machine.specs.Parts.{Command, asked}
use Rattle.block_machine.specs.KeptValues.{is_pending}
use Rattle.block_machine.proofs.Building.{disk, lba, all_of, told_drive, read, forced_read, verify, sync, comes, starts, works, get, get_bad, hard, good, fails_at, writes}
use Rattle.platter_model.specs.declared.op.Op.{Op}
use Rattle.drive_scene.specs.declared.made.Made.{Made}
use Rattle.drive_scene.specs.Run.{Run, beat_of, behind_factory}
use Rattle.drive_scene.specs.Scene.{Beat}
use Rattle.report_text.specs.declared.shown.Shown.{Shown}
use Rattle.report_text.specs.declared.shown.Shown.TheVariants.{Fetched as FetchedAt}
use Rattle.report_text.specs.Proper.{IsShown}
use Rattle.report_text.specs.Laws.{AreShowable}
use Rattle.script_runner.specs.Laws.{EntryIn, entries_before, CameAsReadWithoutFua, NoneIsLeft, AllThatCameAreGone}

-- a write into the cache, a read of the block while it is dirty, a sync, a read of the block once it is clean, and a bad read of the next
first_turns : List Turn
first_turns = writes 1 5 0x11 ++ comes 2 1 (read 5 1) ∷ starts 2 ∷ []

middle_turns : List Turn
middle_turns = comes 3 1 (sync 5 1) ∷ starts 3 ∷ works 3 (hard 3 5 ∷ good 3 ∷ []) ∷ comes 4 1 (read 5 1) ∷ starts 4 ∷ []

dirty_turn : Turn
dirty_turn = works 2 (get 2 5 0x11 ∷ good 2 ∷ [])

clean_turn : Turn
clean_turn = works 4 (get 4 5 0x11 ∷ good 4 ∷ [])

bad_turn : Turn
bad_turn = works 5 (get_bad 5 6 ∷ fails_at 5 3 0x11 0x00 6 ∷ [])

worked : List Turn
worked = first_turns ++ dirty_turn ∷ middle_turns ++ clean_turn ∷ comes 5 1 (read 6 1) ∷ starts 5 ∷ bad_turn ∷ []

worked_is_legal : legal_from disk told_drive worked ≡ true
unfolding worked first_turns middle_turns dirty_turn clean_turn bad_turn operation_of
worked_is_legal = refl

-- all that came are gone
none_left : NoneIsLeft disk worked × AllThatCameAreGone disk worked
unfolding worked first_turns middle_turns dirty_turn clean_turn bad_turn
none_left = (refl, refl)

-- .. and while one is in they aren't
one_left : ((tally_of (entries_of first_turns)).inside ≡ 2 ∷ []) × ((tally_of (entries_of first_turns)).came ≡ 2) × ((tally_of (entries_of first_turns)).ended ≡ 1)
unfolding first_turns
one_left = (refl, refl, refl)

-- a command of the first initiator without data; one with FUA and a verification are no reads that may use the cache
command : ℕ → List ℕ → Command
command c cdb = record { number = c; initiator = 1; tag = record { 0 = c }; attribute = Simple; cdb = cdb; sent = Nothing }

through_the_cache : (asked disk (command 4 (read 5 1)) ≡ Ok (request.Read 5 1 false)) × (asked disk (command 4 (forced_read 5 1)) ≡ Ok (request.Read 5 1 true))
    × (asked disk (command 4 (verify 5 1)) ≡ Ok (request.Verify 5 1))
unfolding command operation_of
through_the_cache = (refl, refl, refl)

-- a run with these turns, whatever its drive and its operations are
module _ (made : Made) (ops : List Op) where
  a_run : Run
  a_run = record { made = made; turns = worked; ops = ops; coming = 0 }

  beats : List Turn → List Beat
  beats turns = map (beat_of (behind_factory made ops)) turns

  -- a get of a block for which nothing is pending
  a_clean_get : EntryIn a_run (Get 4 (lba 5) (Data (all_of 0x11)))
  unfolding a_run beats worked first_turns middle_turns dirty_turn clean_turn bad_turn
  a_clean_get = record {
    turn = beat_of (behind_factory made ops) clean_turn;
    before = beats (first_turns ++ dirty_turn ∷ middle_turns);
    behind = beats (comes 5 1 (read 6 1) ∷ starts 5 ∷ bad_turn ∷ []);
    earlier = [];
    later = good 4 ∷ [];
    among = refl;
    within = refl;
  }

  nothing_pending : is_pending 5 (entries_before a_clean_get) ≡ false
  unfolding a_clean_get beats first_turns middle_turns dirty_turn
  nothing_pending = refl

  -- .. by a READ without FUA
  a_plain_read : CameAsReadWithoutFua disk 4 (entries_before a_clean_get)
  unfolding a_clean_get beats first_turns middle_turns dirty_turn command operation_of
  a_plain_read = record {
    command = command 4 (read 5 1);
    numbered = refl;
    before = entries_of (first_turns ++ dirty_turn ∷ comes 3 1 (sync 5 1) ∷ starts 3 ∷ works 3 (hard 3 5 ∷ good 3 ∷ []) ∷ []);
    behind = Started 4 ∷ [];
    whole = refl;
    from = 5;
    count = 1;
    asks = refl;
  }

  -- .. and of one while its newest value is in the cache alone
  a_dirty_get : EntryIn a_run (Get 2 (lba 5) (Data (all_of 0x11)))
  unfolding a_run beats worked first_turns middle_turns dirty_turn clean_turn bad_turn
  a_dirty_get = record {
    turn = beat_of (behind_factory made ops) dirty_turn;
    before = beats first_turns;
    behind = beats (middle_turns ++ clean_turn ∷ comes 5 1 (read 6 1) ∷ starts 5 ∷ bad_turn ∷ []);
    earlier = [];
    later = good 2 ∷ [];
    among = refl;
    within = refl;
  }

  something_pending : is_pending 5 (entries_before a_dirty_get) ≡ true
  unfolding a_dirty_get beats first_turns
  something_pending = refl

  -- a bad get, and an end that tells it
  a_bad_get : EntryIn a_run (Get 5 (lba 6) Lost)
  unfolding a_run beats worked first_turns middle_turns dirty_turn clean_turn bad_turn
  a_bad_get = record {
    turn = beat_of (behind_factory made ops) bad_turn;
    before = beats (first_turns ++ dirty_turn ∷ middle_turns ++ clean_turn ∷ comes 5 1 (read 6 1) ∷ starts 5 ∷ []);
    behind = [];
    earlier = [];
    later = fails_at 5 3 0x11 0x00 6 ∷ [];
    among = refl;
    within = refl;
  }

  an_unread_end : EntryIn a_run (Ended 5 (unrecovered_read 6))
  unfolding a_run beats worked first_turns middle_turns dirty_turn clean_turn bad_turn
  an_unread_end = record {
    turn = beat_of (behind_factory made ops) bad_turn;
    before = beats (first_turns ++ dirty_turn ∷ middle_turns ++ clean_turn ∷ comes 5 1 (read 6 1) ∷ starts 5 ∷ []);
    behind = [];
    earlier = get_bad 5 6 ∷ [];
    later = [];
    among = refl;
    within = refl;
  }

told_unread : IsTrue (same_reply (unrecovered_read 6) (unrecovered_read 6))
told_unread = refl

-- a turn that a report may show with its operation; a command's number has 32 bits
fetched : Shown
fetched = FetchedAt (record { 0 = 16 }) (record { reread = 0; offset = pos 0 })

a_report : AreShowable (fetched ∷ []) (record { label = Work 3; ops_from = 0; ops_to = 1; entries = Started 3 ∷ [] } ∷ [])
unfolding fetched
a_report = (
  record {
    label = omega arith;
    operations = All-cons IsShown fetched [] (omega arith, omega arith, omega arith) (All-nil IsShown);
    entries = (omega arith, tt);
  },
  tt,
)

no_report : AreShowable [] (record { label = Work 4294967296; ops_from = 0; ops_to = 0; entries = [] } ∷ []) → ⊥
no_report h = omega (arith, h.0.label)
