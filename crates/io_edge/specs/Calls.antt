-- What a call did to a device, as one value.
use Rattle.std.specs.Prelude.{◌≡◌, ℕ, ◌≤◌, max, Bool, List, Option}
use Rattle.io_edge.specs.Causes.{Rose, after_end}

-- of a source: the bytes that were left before and after, where it tells them, whether its last call said the end, how often one did, how many bytes
-- the last call gave, the longest buffer that a call got, and its counts of faults
pub record Drained : Type 0 where
  pub before : Option (List ℕ)
  pub after : Option (List ℕ)
  pub ended : Bool
  pub ends : ℕ
  pub ends_after : ℕ
  pub gave : ℕ
  pub asked : ℕ
  pub asked_after : ℕ
  pub faults : ℕ
  pub faults_after : ℕ

-- of a sink: the bytes that it held before and after, where it tells them, and its counts of faults
pub record Filled : Type 0 where
  pub before : Option (List ℕ)
  pub after : Option (List ℕ)
  pub faults : ℕ
  pub faults_after : ℕ

-- what became of a source
abbrev pub drained : {S : Type 0} → (S → Option (List ℕ)) → (S → Bool) → (S → ℕ) → (S → ℕ) → (S → ℕ) → (S → ℕ) → S → S → Drained
drained left ended ends gave asked faults old new = record {
  before = left old;
  after = left new;
  ended = ended new;
  ends = ends old;
  ends_after = ends new;
  gave = gave new;
  asked = asked old;
  asked_after = asked new;
  faults = faults old;
  faults_after = faults new;
}

-- what became of a sink
abbrev pub filled : {K : Type 0} → (K → Option (List ℕ)) → (K → ℕ) → K → K → Filled
filled written faults old new = record { before = written old; after = written new; faults = faults old; faults_after = faults new }

-- the source was asked for its end once where it said it, and never where it did not
abbrev pub IsAskedOnce : Drained → Type 0
IsAskedOnce i = i.ends_after ≡ after_end i.ended i.ends

-- no call asked for more than so many bytes at once
abbrev pub HasAskedAtMost : ℕ → Drained → Type 0
HasAskedAtMost most i = i.asked_after ≤ max i.asked most

-- the source failed in the call
abbrev pub HasFailed : Drained → Type 0
HasFailed i = Rose i.faults i.faults_after

-- the sink failed in the call
abbrev pub HasRefused : Filled → Type 0
HasRefused o = Rose o.faults o.faults_after
