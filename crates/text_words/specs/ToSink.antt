-- A text written to a sink through a buffer.
use Rattle.std.specs.Prelude.{◌≡◌, ℕ, List, Option}
use Rattle.text_words.specs.Written.{IsGathered}
use Rattle.text_words.specs.declared.to_sink.ToSink.{ToSink}

-- this text was written from the start on to the same sink, of which these are the bytes and the count of faults
abbrev pub IsWritten : {K : Type 0} → (K → Option (List ℕ)) → (K → ℕ) → ToSink K → List ℕ → ToSink K → Type 0
IsWritten held faults start text now =
    (now.sink.ghost_name ≡ start.sink.ghost_name)
    × IsGathered (held start.sink.now) (faults start.sink.now) text (held now.sink.now) (faults now.sink.now) now.gathered now.has_failed
