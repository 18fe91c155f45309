-- A scalar that isn't exposed in a DO to whose body it matters: a reference there writes it.
use Rattle.std.proofs.Common.{◌≡◌, ℕ, ◌+◌, ◌≤◌, List, Bool, true, false, ◌&&◌, Option, Some, None, is_some, inl, inr, refl, sym, ap, subst, ◌∙◌, arith}
use Rattle.std.specs.Prelude.{nat_lt}
use Rattle.std.specs.List.{list_any}
use Rattle.std.proofs.lemmas.Bool.{and_parts, or_parts, cases_eq}
use Rattle.std.proofs.lemmas.List.Folds.{list_any-append}
use Rattle.ped_base.specs.Lists.{is_same_text, is_among}
use Rattle.ped_tree.specs.Tree.{Head, StmtTrees, Do, ProgramTree}
use Rattle.ped_tree.specs.Numbering.{statements_count, statement_with}
use Rattle.ped_tree.specs.Accesses.{constant_names}
use Rattle.ped_refs.specs.References.{Reference, statements_references, references}
use Rattle.ped_rules.specs.ped_symbols.specs.Kinds.{kind_in}
use Rattle.ped_rules.specs.ped_symbols.specs.NameRefusals.{IsValid}
use Rattle.ped_tree.specs.NamesIn.{loop_variables, all_loop_variables}
use Rattle.ped_rules.specs.ped_symbols.specs.RightUses.RightUses.{head_is_right, stmts_are_right}
use Rattle.ped_rules.specs.ped_flow.specs.Events.{start_events}
use Rattle.ped_rules.specs.ped_flow.specs.PathSets.{Paths}
use Rattle.ped_rules.specs.ped_flow.specs.Paths.{iteration, all_paths}
use Rattle.ped_rules.specs.ped_flow.specs.Questions.{LoopOf, IsFirst, IsExposed}
use Rattle.ped_rules.specs.ped_flow.specs.Summaries.{AreSummed, IsReadOn, summary_in_turn, summary_events, summary_of_all}
use Rattle.ped_rules.specs.ped_flow.proofs.Answering.{loop_fits}
use Rattle.ped_rules.specs.ped_flow.proofs.TreeSummaries.{iteration-summed, all_summed, some_path_of_all}
use Rattle.ped_rules.specs.ped_flow.proofs.Truths.{untrue}
use Rattle.ped_rules.specs.ped_laws.specs.FlowRuns.Covering.{some_stop}
use Rattle.ped_rules.specs.ped_laws.proofs.FlowRunLaws.Stopping.{fitting_stops, loop_stops}
use Rattle.ped_rules.specs.ped_steps.specs.Tidy.{is_written_in}
use Rattle.ped_rules.specs.ped_steps.proofs.RunLaws.ProgramParts.{part_at}
use Rattle.ped_rules.specs.Scalars.{is_scalar, is_referred}
use Rattle.ped_tree.specs.NamesIn.{private_names_in, all_private_names_in}
use Rattle.ped_rules.specs.ped_loop_runs.proofs.TidyLaws.TidyPathsSums.{Summary}
use Rattle.ped_scalar.proofs.UnwrittenReads.{IsStill}
use Rattle.ped_scalar.proofs.UnwrittenStatements.{refers, writes, statements_still, iteration_still}
use Rattle.ped_rules.proofs.NameLaws.ReferencesThere.{AreThere, references_there}

and_assoc : (a b c : Bool) → ((a && b) && c) ≡ (a && (b && c))
and_assoc true b c = refl
and_assoc false b c = refl

-- statements have numbers from 1 on
pub from_one : (t : ProgramTree) (s : ℕ) (h : Head) (b : StmtTrees) → statement_with s t ≡ Some (Do h b) → 1 ≤ s
from_one t s h b is = elim (cases_eq s 0) [
  | inl e ↦ (let none : None ≡ Some (Do h b) = sym (ap (λ (k : ℕ). statement_with k t) e) ∙ is in absurd cc)
  | inr some ↦ omega (arith, some)
]

module _ (t : ProgramTree) (valid : IsValid t) (s : ℕ) (l : LoopOf t s) (x : List ℕ) (scalar : is_scalar t x ≡ true)
    (near : is_among x (loop_variables (Do l.head l.body)) ≡ false) (shared : is_among x (private_names_in (Do l.head l.body)) ≡ false) where
  abbrev constants : List (List ℕ)
  constants = constant_names t.decls

  abbrev trip : Paths
  trip = iteration s l.head l.body (all_paths constants l.body (s + 1))

  abbrev sum : Summary
  sum = summary_in_turn (summary_events x (start_events s l.head l.body)) (summary_of_all constants x l.body (s + 1))

  place : AreThere t s l.head l.body l.is (references t)
  place =
      let from = from_one t s l.head l.body l.is in
      let to = loop_fits t s l.head l.body l.is in
      references_there t s l.head l.body l.is from (omega (arith, to))

  right : stmts_are_right (kind_in t) l.body ≡ true
  right = (and_parts (head_is_right (kind_in t) l.head) (stmts_are_right (kind_in t) l.body) (part_at t valid s (Do l.head l.body) l.is).right).1

  stops : some_stop l.body ≡ false
  stops = loop_stops t s l (fitting_stops t valid.fits)

  written_is : is_written_in t s l.body x ≡ list_any (writes x) (statements_references constants place.nest (s + 1) l.body)
  written_is =
      (λ i. list_any (λ (r : Reference). and_assoc (nat_lt s r.statement && nat_lt r.statement (s + (statements_count l.body + 1))) (is_same_text x r.access.name) r.access.writes i) (references t))
      ∙ place.tested (writes x)

  still : is_referred t s l.body x ≡ true → is_written_in t s l.body x ≡ false → IsStill sum true
  still referred unwritten =
      let nest = place.nest in
      let referring : list_any (refers x) (statements_references constants nest (s + 1) l.body) ≡ true = sym (place.tested (refers x)) ∙ referred in
      let parts = or_parts (is_same_text x l.head.variable) (is_among x (all_loop_variables l.body)) near in
      let aparts = or_parts (is_among x l.head.private) (is_among x (all_private_names_in l.body)) (sym (list_any-append (is_same_text x) l.head.private (all_private_names_in l.body)) ∙ shared) in
      subst (λ (b : Bool). IsStill sum b) referring
      (iteration_still constants x (kind_in t) scalar s l.head l.body near shared (summary_of_all constants x l.body (s + 1)) (list_any (refers x) (statements_references constants nest (s + 1) l.body))
      (statements_still constants x (kind_in t) scalar l.body (s + 1) nest right parts.1 aparts.1 stops (sym written_is ∙ unwritten)))

  read_somewhere : (o : Option ℕ) → is_some o ≡ true → IsFirst (IsReadOn trip x) o → ((n : ℕ) → IsExposed t s x n → ⊥) → ⊥
  read_somewhere None some first unexposed = untrue some
  read_somewhere (Some n) some first unexposed = unexposed n (record { loop = l; path = first.0.0; leads = first.0.1; reads = first.0.2 })

  -- the body refers to the scalar, and no read of it is exposed: a reference there writes it
  pub written_there : is_referred t s l.body x ≡ true → ((n : ℕ) → IsExposed t s x n → ⊥) → is_written_in t s l.body x ≡ true
  written_there referred unexposed = go (is_written_in t s l.body x) refl
    where
      summed : AreSummed trip x sum
      summed =
          iteration-summed x s l.head l.body (all_paths constants l.body (s + 1)) (summary_of_all constants x l.body (s + 1)) (some_path_of_all constants l.body (s + 1)) (all_summed constants x l.body (s + 1))

      go : (b : Bool) → is_written_in t s l.body x ≡ b → is_written_in t s l.body x ≡ true
      go true e = e
      go false e = absurd (read_somewhere sum.first ((still referred e).reads refl) summed.first unexposed)
