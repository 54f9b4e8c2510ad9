-- What was written to a place since a start.
use Rattle.std.specs.Prelude.{◌≡◌, ◌≢◌, ℕ, ◌≤◌, Bool, true, false, List, ◌++◌, Option}
use Rattle.std.specs.Io.KnownBytes.{Appends}
use Rattle.outside.specs.Faults.{Rises}

-- whatever text was written since any start, this text is written since it now
abbrev pub Writes : {O : Type 0} → (O → List ℕ → O → Type 0) → O → O → (List ℕ → List ℕ) → Type 0
Writes written old new more = (start : _) (text : List ℕ) → written start text old → written start (more text) new

-- Since a sink had these bytes, where they are known, and so many faults, a text was written to it through a buffer:
-- it has a front of the text now. While no write has failed, the rest is what is gathered, and its faults are as many as then; else they
-- have risen.
pub record IsGathered (old : Option (List ℕ)) (faults_old : ℕ) (text : List ℕ) (new : Option (List ℕ)) (faults_new : ℕ) (gathered : List ℕ) (has_failed : Bool) : Type 0 where
  pub sent : List ℕ
  pub rest : List ℕ
  pub whole : sent ++ rest ≡ text
  pub has_sent : Appends old new sent
  pub faults_stay : faults_old ≤ faults_new
  pub has_rest : has_failed ≡ false → rest ≡ gathered
  pub no_fault : has_failed ≡ false → faults_new ≡ faults_old
  pub faults_rise : has_failed ≡ true → Rises faults_old faults_new

-- A text was compared with the front of another: it is the front, and this is the rest; or it is no front.
pub record IsCompared (whole text rest : List ℕ) (is_front : Bool) : Type 0 where
  pub front : is_front ≡ true → whole ≡ text ++ rest
  pub other : is_front ≡ false → (more : List ℕ) → whole ≢ text ++ more
