-- `privatise` and `expand` are lawful: one first cause at most, one new program, which is there where nothing stands against the step, and may be trusted as the old one and means the same.
use Rattle.std.proofs.Common.{◌≡◌, ℕ, ◌+◌, ◌<◌, List, Bool, true, false, ◌&&◌, Option, Some, None, is_none, refl, sym, ap, ◌∙◌, subst, arith}
use Rattle.std.specs.Prelude.{nat_lt, if◌then◌else◌}
use Rattle.std.proofs.lemmas.Bool.{both_ways, lt-ltb, ltb-true}
use Rattle.ped_tree.specs.Tree.{StmtTrees, ProgramTree}
use Rattle.ped_tree.specs.Numbering.{statements_count}
use Rattle.ped_rules.specs.ped_graph.specs.Keeping.{IsOneToOne}
use Rattle.ped_rules.specs.ped_symbols.specs.Kinds.{table_of}
use Rattle.ped_rules.specs.ped_symbols.specs.NameRefusals.{IsValid}
use Rattle.ped_rules.specs.ped_flow.specs.Questions.{LoopOf}
use Rattle.ped_rules.specs.ped_steps.specs.Causes.{NoRule, none_forbids}
use Rattle.ped_rules.specs.ped_steps.specs.Replacing.{all_kept}
use Rattle.ped_rules.specs.ped_steps.proofs.OneCause.{one_cause}
use Rattle.ped_rules.specs.ped_loop_runs.specs.Unrejected.{IsTrusted}
use Rattle.ped_rules.specs.ped_steps.specs.Runs.Meaning.{Keeps}
use Rattle.ped_rules.specs.Lawful.{MakesSome, IsFaithful, IsLawful}
use Rattle.ped_rules.specs.Spans.{Span, span_of}
use Rattle.ped_rules.proofs.KeptOnData.{owes_by_tidiness}
use Rattle.ped_rules.proofs.KeptNumbers.{one_to_one, all_one_to_one}
use Rattle.ped_scalar.specs.Privatising.{privatised, StandsAgainstPrivatising, privatising}
use Rattle.ped_scalar.specs.Expanding.{array_name, SaysLive, IsExpanded, StandsAgainstExpanding, expanded, moved_behind, expand_kept, expanding}
use Rattle.ped_scalar.proofs.PrivatiseRules as against_privatising
use Rattle.ped_scalar.proofs.ExpandRules as against_expanding
use Rattle.ped_scalar.proofs.KeptByPrivatising.{privatising_keeps_it}
use Rattle.ped_scalar.proofs.KeptByExpanding.{expanding_keeps_it}
use Rattle.ped_scalar.proofs.TidyKept.{privatised_tidy, expanded_tidy}
use Rattle.ped_scalar.proofs.UnrejectedSteps.{privatised_unrejected, expanded_unrejected}
use Rattle.ped_scalar.proofs.LiveSaid.{live_said}

faithful_private : (s : ℕ) (x : List ℕ) (t : ProgramTree) → IsValid t → NoRule (StandsAgainstPrivatising s x t) → IsTrusted t → IsFaithful t (privatised t s x)
faithful_private s x t valid none trusted = record {
  trusted = record { tidy = privatised_tidy t s x valid none trusted.tidy; unrejected = privatised_unrejected t s x trusted.unrejected };
  keeps = privatising_keeps_it t s x valid none;
}

pub lawful_privatising : (s : ℕ) (x : List ℕ) → IsLawful (privatising s x)
lawful_privatising s x = record {
  one_cause = λ t c d p q. one_cause t (StandsAgainstPrivatising s x t) none_forbids (against_privatising.chain s x t).one c d p q;
  one_made = against_privatising.one_made s x;
  one_to_one = λ t new keep p. subst IsOneToOne (sym p.1) (all_one_to_one t);
  some_made = λ t valid none. (privatised t s x, all_kept t, (refl, refl), against_privatising.is_valid s x t none.0);
  keeps = λ t new keep valid none p trusted. subst (IsFaithful t) (sym p.0) (faithful_private s x t valid none.0 trusted);
  keeps_on = λ t new keep data_bytes valid none p. owes_by_tidiness (privatising s x) t new data_bytes (λ tidy. subst (Keeps t) (sym p.0) (privatising_keeps_it t s x valid none.0));
}

moved_grows : (p q : Bool) (m n : ℕ) → (p ≡ true → q ≡ true) → m < n → (if p then m + 1 else m) < (if q then n + 1 else n)
moved_grows true true m n both less = omega (arith, less)
moved_grows true false m n both less = absurd (both_ways false refl (both refl))
moved_grows false true m n both less = omega (arith, less)
moved_grows false false m n both less = less

both_moved : (p q live : Bool) → (p ≡ true → q ≡ true) → (p && live) ≡ true → (q && live) ≡ true
both_moved true q live both e = ap (λ (b : Bool). b && live) (both refl) ∙ e
both_moved false q live both e = absurd (both_ways false refl e)

moved_behind_grows : (end : ℕ) (live : Bool) (m n : ℕ) → m < n → moved_behind end live m < moved_behind end live n
moved_behind_grows end live m n less =
    moved_grows (nat_lt end m && live) (nat_lt end n && live) m n
    (both_moved (nat_lt end m) (nat_lt end n) live (λ e. let before = ltb-true end m e in lt-ltb end n (omega (arith, before, less)))) less

-- those behind a DO go one further
expanded_one_to_one : (t : ProgramTree) (s : ℕ) (body : StmtTrees) (live : Bool) → IsOneToOne (expand_kept t s body live)
expanded_one_to_one t s body live =
    let end = s + statements_count body in
    one_to_one (λ n. moved_behind end live n) (moved_behind_grows end live) (statements_count t.body)

-- where no rule stands against `expand`, it makes a program, which is valid
module _ (s : ℕ) (x : List ℕ) (t : ProgramTree) (none : NoRule (StandsAgainstExpanding s x t)) (l : LoopOf t s) where
  expanded_named : (v : Span) → span_of (table_of t).constants l.head ≡ Some v → (o : Option (List ℕ)) → array_name t ≡ o → (live : Bool) × SaysLive t s x live → MakesSome (expanding s x) t
  expanded_named v spans None e said = absurd (against_expanding.has_name s x t none e)
  expanded_named v spans (Some array) e (live, says) =
      let new : ProgramTree = expanded t s x live array v in
      let made : IsExpanded t s x l.head new = record { array = array; fresh = e; span = v; spans = spans; live = live; says = says; made = refl } in
      (new, expand_kept t s l.body live, (l, made, refl), against_expanding.is_valid s x t none l new made)

  some_expanded : (o : Option Span) → span_of (table_of t).constants l.head ≡ o → MakesSome (expanding s x) t
  some_expanded None e = absurd (both_ways (is_none (span_of (table_of t).constants l.head)) (against_expanding.is_constant s x t none l) (ap is_none e))
  some_expanded (Some v) e = expanded_named v e (array_name t) refl (live_said t s x)

pub lawful_expanding : (s : ℕ) (x : List ℕ) → IsLawful (expanding s x)
lawful_expanding s x = record {
  one_cause = λ t c d p q. one_cause t (StandsAgainstExpanding s x t) none_forbids (against_expanding.chain s x t).one c d p q;
  one_made = against_expanding.one_made s x;
  one_to_one = λ t new keep p. subst IsOneToOne (sym p.2) (expanded_one_to_one t s p.0.body p.1.live);
  some_made = λ t valid none. let l = against_expanding.its_loop s x t none.0 in some_expanded s x t none.0 l (span_of (table_of t).constants l.head) refl;
  keeps = λ t new keep valid none p trusted. record {
    trusted = record { tidy = expanded_tidy t new s p.0 x valid none.0 p.1 trusted.tidy; unrejected = expanded_unrejected t new s p.0 x p.1 trusted.unrejected };
    keeps = expanding_keeps_it t s x p.0 valid none.0 trusted.tidy new p.1;
  };
  keeps_on = λ t new keep data_bytes valid none p. owes_by_tidiness (expanding s x) t new data_bytes (λ tidy. expanding_keeps_it t s x p.0 valid none.0 tidy new p.1);
}
