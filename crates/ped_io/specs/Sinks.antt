-- Sinks in memory (this project).
use Rattle.std.specs.Prelude.{ℕ, ◌++◌, List, [], Contains}
use Rattle.ped_io.specs.Counts.{one_more}

-- a sink in memory: all bytes taken, the numbers of the calls that are to fail (the first has
-- number 1), the most bytes that a write takes, the calls so far, and the faults
pub record MemorySink : Type 0 where
  pub taken : List ℕ
  pub fails : List ℕ
  pub most : ℕ
  pub calls : ℕ
  pub faults : ℕ

-- a sink that no one has called yet
abbrev pub new_sink : List ℕ → ℕ → MemorySink
new_sink fails most = record { taken = []; fails = fails; most = most; calls = 0; faults = 0 }

-- the next call takes nothing: its number is among those that fail
abbrev pub FailsNext : MemorySink → Type 0
FailsNext sink = Contains sink.fails (one_more sink.calls)

-- the sink after a call that took these bytes
abbrev pub after_write : MemorySink → List ℕ → MemorySink
after_write sink bytes = record sink { taken = sink.taken ++ bytes; calls = one_more sink.calls }

-- the sink after a call that had no memory
abbrev pub after_call : MemorySink → MemorySink
after_call sink = record sink { calls = one_more sink.calls }

-- the sink after a call that has failed
abbrev pub after_fault : MemorySink → MemorySink
after_fault sink = record sink { calls = one_more sink.calls; faults = one_more sink.faults }
