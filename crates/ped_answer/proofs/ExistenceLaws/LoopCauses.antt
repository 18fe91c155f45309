-- Each step that keeps one loop one loop has a first cause against it in a program, or none.
use Rattle.std.proofs.Common.{◌≡◌, ◌⊎◌, ℕ, inl, inr, sym, ◌∙◌, Bool, true, false, ◌&&◌, List, Option, Some, None, refl, arith}
use Rattle.std.specs.List.{list_any}
use Rattle.ped_tree.specs.Tree.{Head, StmtTrees, ProgramTree}
use Rattle.ped_session.specs.ped_flow.specs.Questions.{LoopOf}
use Rattle.ped_session.specs.ped_symbols.specs.Kinds.{table_of}
use Rattle.ped_session.specs.ped_rules.specs.ped_edges.specs.Edges.{Edge}
use Rattle.ped_session.specs.ped_graph.specs.Dependences.{AreEdges}
use Rattle.ped_session.specs.ped_steps.specs.declared.rules.Rule.TheVariants.{NoLoop, ParallelState, IndexEscapes, StepShape, Limit, NothingToReject}
use Rattle.ped_session.specs.ped_steps.specs.Causes.{Rules, Cause, IsFirstCause, none_forbids}
use Rattle.ped_session.specs.ped_steps.specs.Replacing.{all_kept}
use Rattle.ped_session.specs.ped_rules.specs.Carried.{is_carried_by}
use Rattle.ped_session.specs.ped_rules.specs.Chains.{no_rules, also, WhereLoop}
use Rattle.ped_session.specs.ped_rules.specs.Rules.{WhereNoLoop, is_parallel, is_serial, WhereEscape, is_unit, has_other_step, WhereLimit}
use Rattle.ped_session.specs.ped_rules.proofs.Chains.{IsChain, chain_end, chain_link}
use Rattle.ped_session.specs.ped_rules.proofs.OneEach.{loop_one, escape_one, limit_one}
use Rattle.ped_session.specs.ped_rules.proofs.Decided.{loop_decided}
use Rattle.ped_session.specs.ped_rules.specs.Flags.{flagged}
use Rattle.ped_session.specs.ped_rules.specs.Paralleling.{StandsAgainstParallel}
use Rattle.ped_session.specs.ped_transformations.specs.ped_loops.specs.Serialising.{StandsAgainstSerial}
use Rattle.ped_session.specs.ped_transformations.specs.ped_loops.specs.Reversing.{reversed, MakesReversed, StandsAgainstReversal}
use Rattle.ped_session.specs.ped_transformations.specs.ped_loops.specs.Rejecting.{is_pending_of, NothingPending, WhereNothing, StandsAgainstRejection}
use Rattle.ped_session.specs.ped_transformations.specs.ped_loops.proofs.RejectRules.{nothing_pending, some_pending}
use Rattle.ped_session.specs.ped_transformations.specs.ped_splits.proofs.Existence.Edges.{edges_of_program}
use Rattle.ped_answer.proofs.ExistenceLaws.ChainCauses.{Settled, Found, found_link, found_last, settled_no_loop, settled_where, settled_escape, settled_limit, some_cause}

module _ (t : ProgramTree) (s : ℕ) where
  -- the rules of a step that asks about the DO, about escapes and whether the new program is valid
  module _ (test : Head → StmtTrees → Bool) (flag : Bool) where
    abbrev Makes : ProgramTree → ProgramTree → List (ℕ × ℕ) → Type 0
    Makes u new keep = (new ≡ flagged u s flag) × (keep ≡ all_kept u)

    abbrev limit : Rules
    limit = also Limit (WhereLimit Makes t s) no_rules

    abbrev escape : Rules
    escape = also IndexEscapes (WhereEscape t s) limit

    abbrev state : Rules
    state = also ParallelState (WhereLoop t s test) escape

    limit_chain : IsChain 5 limit
    limit_chain = chain_link Limit (WhereLimit Makes t s) no_rules 5 (omega arith) (limit_one t s Makes) (chain_end 15)

    escape_chain : IsChain 3 escape
    escape_chain = chain_link IndexEscapes (WhereEscape t s) limit 3 (omega arith) (escape_one t s) limit_chain

    state_chain : IsChain 1 state
    state_chain = chain_link ParallelState (WhereLoop t s test) escape 1 (omega arith) (loop_one t s test) escape_chain

    flag_found : Found (also NoLoop (WhereNoLoop t s) state)
    flag_found =
        found_link NoLoop (WhereNoLoop t s) state state_chain (settled_no_loop t s)
        (found_link ParallelState (WhereLoop t s test) escape escape_chain (settled_where t s test)
        (found_link IndexEscapes (WhereEscape t s) limit limit_chain (settled_escape t s)
        (found_last Limit (WhereLimit Makes t s) (settled_limit t s Makes (λ new other keep more p q. (p.0 ∙ sym q.0, p.1 ∙ sym q.1)) (λ l. (flagged t s flag, all_kept t, (refl, refl)))))))

  pub parallel_cause : (forbids : Edge → Bool) → (c : Option Cause) × IsFirstCause t (StandsAgainstParallel s t) forbids c
  parallel_cause forbids = some_cause t (StandsAgainstParallel s t) forbids (flag_found is_parallel true)

  pub serial_cause : (c : Option Cause) × IsFirstCause t (StandsAgainstSerial s t) none_forbids c
  serial_cause = some_cause t (StandsAgainstSerial s t) none_forbids (flag_found is_serial false)

  -- the rules of `reverse`
  abbrev other_step : Head → StmtTrees → Bool
  other_step = has_other_step (table_of t).constants is_unit

  abbrev reverse_limit : Rules
  reverse_limit = also Limit (WhereLimit (MakesReversed s) t s) no_rules

  abbrev reverse_shape : Rules
  reverse_shape = also StepShape (WhereLoop t s other_step) reverse_limit

  abbrev reverse_escape : Rules
  reverse_escape = also IndexEscapes (WhereEscape t s) reverse_shape

  abbrev reverse_state : Rules
  reverse_state = also ParallelState (WhereLoop t s is_parallel) reverse_escape

  reverse_limit_chain : IsChain 8 reverse_limit
  reverse_limit_chain = chain_link Limit (WhereLimit (MakesReversed s) t s) no_rules 8 (omega arith) (limit_one t s (MakesReversed s)) (chain_end 15)

  reverse_shape_chain : IsChain 5 reverse_shape
  reverse_shape_chain = chain_link StepShape (WhereLoop t s other_step) reverse_limit 5 (omega arith) (loop_one t s other_step) reverse_limit_chain

  reverse_escape_chain : IsChain 3 reverse_escape
  reverse_escape_chain = chain_link IndexEscapes (WhereEscape t s) reverse_shape 3 (omega arith) (escape_one t s) reverse_shape_chain

  reverse_state_chain : IsChain 1 reverse_state
  reverse_state_chain = chain_link ParallelState (WhereLoop t s is_parallel) reverse_escape 1 (omega arith) (loop_one t s is_parallel) reverse_escape_chain

  pub reversal_cause : (forbids : Edge → Bool) → (c : Option Cause) × IsFirstCause t (StandsAgainstReversal s t) forbids c
  reversal_cause forbids = some_cause t (StandsAgainstReversal s t) forbids
      (found_link NoLoop (WhereNoLoop t s) reverse_state reverse_state_chain (settled_no_loop t s)
      (found_link ParallelState (WhereLoop t s is_parallel) reverse_escape reverse_escape_chain (settled_where t s is_parallel)
      (found_link IndexEscapes (WhereEscape t s) reverse_shape reverse_shape_chain (settled_escape t s)
      (found_link StepShape (WhereLoop t s other_step) reverse_limit reverse_limit_chain (settled_where t s other_step)
      (found_last Limit (WhereLimit (MakesReversed s) t s) (settled_limit t s (MakesReversed s) (λ new other keep more p q. (p.0 ∙ sym q.0, p.1 ∙ sym q.1)) (λ l. (reversed t s, all_kept t, (refl, refl)))))))))

  -- the rules of `reject`
  module _ (x : List ℕ) where
    pending_by : (all : List Edge) → AreEdges t all → (b : Bool) → list_any (λ e. is_carried_by t s e && is_pending_of x e) all ≡ b → NothingPending t s x ⊎ (NothingPending t s x → ⊥)
    pending_by all are true e = inr (some_pending s x t all are e)
    pending_by all are false e = inl (nothing_pending s x t all are e)

    pending_decided : NothingPending t s x ⊎ (NothingPending t s x → ⊥)
    pending_decided = let es = edges_of_program t in pending_by es.0 es.1 (list_any (λ e. is_carried_by t s e && is_pending_of x e) es.0) refl

    settled_nothing : NothingPending t s x ⊎ (NothingPending t s x → ⊥) → LoopOf t s ⊎ (LoopOf t s → ⊥) → Settled (WhereNothing t s x)
    settled_nothing (inl none) (inl l) = (Some s, (l, none, refl))
    settled_nothing (inl none) (inr n) = (None, λ m p. n p.0)
    settled_nothing (inr some) b = (None, λ m p. some p.1)

    abbrev nothing : Rules
    nothing = also NothingToReject (WhereNothing t s x) no_rules

    nothing_chain : IsChain 1 nothing
    nothing_chain = chain_link NothingToReject (WhereNothing t s x) no_rules 1 (omega arith) (λ m n a b. a.2 ∙ sym b.2) (chain_end 18)

    pub rejection_cause : (c : Option Cause) × IsFirstCause t (StandsAgainstRejection s x t) none_forbids c
    rejection_cause = some_cause t (StandsAgainstRejection s x t) none_forbids
        (found_link NoLoop (WhereNoLoop t s) nothing nothing_chain (settled_no_loop t s)
        (found_last NothingToReject (WhereNothing t s x) (settled_nothing pending_decided (loop_decided t s))))
