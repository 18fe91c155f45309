-- `inline` is lawful.
use Rattle.std.proofs.Common.{ℕ, refl, sym, subst}
use Rattle.ped_tree.specs.Tree.{StmtTrees, ProgramTree}
use Rattle.ped_rules.specs.ped_steps.specs.Runs.Meaning.{Keeps}
use Rattle.ped_rules.proofs.KeptOnData.{owes_by_tidiness}
use Rattle.ped_rules.specs.Lawful.{IsFaithful, IsLawful}
use Rattle.ped_rules.specs.ped_loop_runs.specs.Unrejected.{IsTrusted}
use Rattle.ped_rules.specs.ped_steps.specs.Causes.{none_forbids}
use Rattle.ped_rules.specs.ped_steps.proofs.OneCause.{one_cause}
use Rattle.ped_rules.specs.ped_graph.specs.Keeping.{IsOneToOne}
use Rattle.ped_inline.specs.Blocks.{IsBlock}
use Rattle.ped_inline.specs.Inlining.{inlined, inline_kept, StandsAgainstInlining, inlining}
use Rattle.ped_inline.proofs.InlineRules as rules
use Rattle.ped_inline.proofs.InlineKeeps.{inlined_keeps}
use Rattle.ped_inline.proofs.InlinedTidy.{stays_trusted_inlined}
use Rattle.ped_inline.proofs.OneToOne.{kept_one_to_one}

inline_faithful : (t : ProgramTree) (s : ℕ) → (body : StmtTrees) × IsBlock t s body → IsTrusted t → IsFaithful t (inlined t s)
inline_faithful t s b trusted = record { trusted = stays_trusted_inlined t s b.0 b.1 trusted; keeps = inlined_keeps t s b.0 b.1 }

pub lawful_inline : (s : ℕ) → IsLawful (inlining s)
lawful_inline s = record {
  one_cause = λ t c d p q. one_cause t (StandsAgainstInlining s t) none_forbids (rules.chain s t).one c d p q;
  one_made = rules.one_made s;
  one_to_one = λ t new keep p. subst IsOneToOne (sym p.1) (kept_one_to_one t s);
  some_made = λ t valid none. (inlined t s, inline_kept t s, (refl, refl), rules.is_valid s t none.0);
  keeps = λ t new keep valid none p trusted. subst (IsFaithful t) (sym p.0) (inline_faithful t s (rules.its_block s t none.0) trusted);
  keeps_on = λ t new keep data_bytes valid none p. owes_by_tidiness (inlining s) t new data_bytes (λ tidy. let b = rules.its_block s t none.0 in subst (Keeps t) (sym p.0) (inlined_keeps t s b.0 b.1));
}
