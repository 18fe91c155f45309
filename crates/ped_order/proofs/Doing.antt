-- What is left of a run does a trace, whatever the store.
use Rattle.std.proofs.Common.{◌≡◌, ℕ, false}
use Rattle.ped_interleavings.specs.ped_eval.specs.ped_store.specs.Stores.{Store}
use Rattle.ped_interleavings.specs.ped_eval.specs.ped_store.specs.Acts.{Act, closed}
use Rattle.ped_interleavings.specs.ped_eval.specs.Scopes.{Setting, Scope, place_of}
use Rattle.ped_interleavings.specs.ped_eval.specs.Loops.{Entered, exit_touches}
use Rattle.ped_interleavings.specs.Lefts.{Left, finished, open_loop, Lefts, no_lefts, more_lefts, is_finished}
use Rattle.ped_interleavings.specs.Steps.{went, halted, act_of, step}
use Rattle.ped_laws.specs.Acts.Fitting.{Find}
use Rattle.ped_order.proofs.Traces.{Trace, nothing, one, fork, Traces, no_traces, more_traces}

-- how a trace ends: nothing is left behind it, or a STOP does this act
pub data End : Type 0 where
  all_done : End
  by_stop : Act → End

module _ (p : Setting) where
  abbrev pub IsAtEnd : End → Left → Type 0
  IsAtEnd all_done l = l ≡ finished
  IsAtEnd (by_stop a) l = (c : ℕ) (s : Store) → step p l c s ≡ halted a

  abbrev mutual
    pub Does : End → Trace → Left → Type 0
    Does end nothing l = IsAtEnd end l
    Does end (one a t) l = (is_finished l ≡ false) × (rest : Left) × ((c : ℕ) (s : Store) → Find a.touches s → step p l c s ≡ went a rest) × Does end t rest
    Does end (fork ts a t) l =
        (e : Entered) × (n : ℕ) × (scope : Scope) × (ls : Lefts) × (rest : Left) × (l ≡ open_loop e n scope ls rest) × (a ≡ act_of closed (place_of p n scope) (exit_touches e scope)) × DoesEach ts ls × Does end t rest

    pub DoesEach : Traces → Lefts → Type 0
    DoesEach no_traces ls = ls ≡ no_lefts
    DoesEach (more_traces t ts) ls = (l : Left) × (rest : Lefts) × (ls ≡ more_lefts l rest) × Does all_done t l × DoesEach ts rest
