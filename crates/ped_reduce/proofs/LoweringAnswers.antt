-- From what the code of lowering finds to what comes of a program.
use Rattle.std.proofs.Common.{◌≡◌, ◌↔◌, ℕ, ◌-◌, ◌*◌, ◌≤◌, List, [], ◌∷◌, ◌++◌, length, All, Bool, true, false, not, inr, Option, Some, None, is_some, is_none, IsTrue, refl, sym, ap, ◌∙◌, subst, arith}
use Rattle.std.proofs.lemmas.Bool.{both_ways}
use Rattle.std.proofs.lemmas.List.Elements.{All-head, All-tail}
use Rattle.ped_base.specs.Lists.{has_some}
use Rattle.ped_tree.specs.Tree.{Head, StmtTrees, ProgramTree}
use Rattle.ped_rules.specs.ped_flow.specs.Questions.{IsLoop, LoopOf}
use Rattle.ped_edges.specs.CodeEdges.{edge_of}
use Rattle.ped_edges.specs.Edges.{Edge}
use Rattle.ped_edges.specs.declared.edges.Edge.{Edge as CodeEdge}
use Rattle.ped_rules.specs.ped_steps.specs.Causes.{Rules, NoRule}
use Rattle.ped_rules.specs.Carried.{IsFirstOf as IsFirstEdge}
use Rattle.ped_rules.specs.Chains.{no_rules}
use Rattle.ped_rules.proofs.OneLoop.{one_loop}
use Rattle.ped_reduce.specs.declared.lowering.Lowered.{Lowered as CodeLowered}
use Rattle.ped_reduce.specs.declared.rules.Standing.{Standing}
use Rattle.ped_reduce.specs.Lists.{list_of}
use Rattle.ped_reduce.specs.Lowering.{Lowered, lowered_at}
use Rattle.ped_reduce.specs.Reducing.{also_against_sums, StandsAgainstSumming, carried_beside, is_in_live, IsLive, LowersOne}
use Rattle.ped_reduce.specs.CodeLowered.{lowered_view, IsKept, IsFree, IsLiveAt, IsNext}
use Rattle.ped_reduce.specs.CodeRules.{IsFirstOf, behind_limit}
use Rattle.ped_reduce.proofs.SummingRules as rules

-- one that forbids isn't among those that don't
forbids_not : (forbids : Edge → Bool) (front behind : List Edge) (e : Edge) → forbids e ≡ true → All (λ f. forbids f ≡ false) (front ++ e ∷ behind) → ⊥
forbids_not forbids [] behind e does all = let doesnt : forbids e ≡ false = All-head (λ f. forbids f ≡ false) e behind all in both_ways (forbids e) doesnt does
forbids_not forbids (f ∷ front) behind e does all = forbids_not forbids front behind e does (All-tail (λ g. forbids g ≡ false) f (front ++ e ∷ behind) all)

-- where one is there the other isn't
pub turned : (a b : Bool) → a ≡ not b → b ≡ not a
turned a true e = sym (ap not e)
turned a false e = sym (ap not e)

some_of : (names : List (List ℕ)) → (names ≡ [] → ⊥) → has_some names ≡ true
some_of [] some = absurd (some refl)
some_of (x ∷ xs) some = refl

module _ (t : ProgramTree) (s : ℕ) (names : List (List ℕ)) where
  -- a rule on sums stands, so sums aren't free
  pub early_found : (o : Option Standing) → is_some o ≡ true → IsFirstOf (also_against_sums s names t no_rules) o → IsFree t s names → ⊥
  early_found None e h free = let wrong : false ≡ true = e in absurd cc
  early_found (Some found) e h free = free.0 found.rule found.statement (rules.own_in_chain s names t (behind_limit s names t) found.rule found.statement h.0)

  pub late_found : (o : Option Standing) → is_some o ≡ true → IsFirstOf (behind_limit s names t) o → IsFree t s names → ⊥
  late_found None e h free = let wrong : false ≡ true = e in absurd cc
  late_found (Some found) e h free = free.0 found.rule found.statement (rules.other_in_chain s names t (behind_limit s names t) found.rule found.statement h.0)

  pub not_free : (IsFree t s names → ⊥) → IsTrue false ↔ IsFree t s names
  not_free forbidden = ((λ h. let wrong : false ≡ true = h in absurd cc), λ free. absurd (forbidden free))

  none_of : (stands : Rules) (o : Option Standing) → is_some o ≡ false → IsFirstOf stands o → NoRule stands
  none_of stands None e h = h
  none_of stands (Some found) e h = let wrong : true ≡ false = e in absurd cc

  -- no rule stands
  pub rules_clear : (early late : Option Standing) → is_some early ≡ false → IsFirstOf (also_against_sums s names t no_rules) early → is_some late ≡ false → IsFirstOf (behind_limit s names t) late → NoRule (StandsAgainstSumming s names t)
  rules_clear early late e h f k = rules.none_of_both s names t (behind_limit s names t) (none_of (also_against_sums s names t no_rules) early e h) (none_of (behind_limit s names t) late f k)

  -- so it is up to the dependences
  pub free_by_edge : NoRule (StandsAgainstSumming s names t) → (o : Option CodeEdge) (free : Bool) → free ≡ is_none o → IsFirstEdge t (carried_beside t s names) o → IsTrue free ↔ IsFree t s names
  free_by_edge none None free is first = ((λ h. (none, first)), λ h. is)
  free_by_edge none (Some e) free is first = ((λ h. let wrong : false ≡ true = sym is ∙ h in absurd cc), λ free_of. absurd (forbidden free_of))
    where
      forbidden : IsFree t s names → ⊥
      forbidden free_of =
          let found = first.0.2 in
          forbids_not (carried_beside t s names) found.0 found.1 (edge_of e) found.3 (subst (λ (es : List Edge). All (λ f. carried_beside t s names f ≡ false) es) found.2 (free_of.1 first.0.0 first.0.1))

-- what comes of a list that isn't live
module _ (t : ProgramTree) (s : ℕ) (h : Head) (body : StmtTrees) (is : IsLoop t s h body) (l : CodeLowered) where
  abbrev loop : LoopOf t s
  loop = record { head = h; body = body; is = is }

  abbrev names : List (List ℕ)
  names = list_of body

  same_names : (k : LoopOf t s) → list_of k.body ≡ names
  same_names k = ap list_of (one_loop t s k loop).1

  pub not_forbidden : (r : Lowered) → (IsFree t s names → ⊥) → IsLive t s (lowered_view l) r → ⊥
  not_forbidden r forbidden live = forbidden (subst (IsFree t s) (same_names live.loop) live.free)

  -- what comes of one that is
  pub live_by : (names ≡ [] → ⊥) → length names ≤ 8 → is_in_live t (lowered_view l) s ≡ false → IsFree t s names → (o : Option CodeLowered) → IsNext s names l o → IsLiveAt t s l o
  live_by some few outside free None none = λ r live. none r (ap (λ (xs : List (List ℕ)). lowered_at true (lowered_view l) s xs) (sym (same_names live.loop)) ∙ live.makes) live.valid
  live_by some few outside free (Some new) next = (
    record {
      loop = loop;
      some = some_of names some;
      few = few;
      outside = outside;
      free = free;
      makes = next.0;
      valid = next.1.valid;
    },
    next.1,
  )

-- one statement more
module _ (t : ProgramTree) (s : ℕ) (l : CodeLowered) where
  few_more : (m n : ℕ) → m ≤ 10000 * (n - 1) → m ≤ 10000 * n
  few_more m n h = omega (arith, h)

  pub stays : IsKept (s - 1) l → IsKept s l
  stays kept = record { valid = kept.valid; lines = kept.lines; symbols = kept.symbols; few = few_more l.more s kept.few }

  pub unlowered : ((r : Lowered) → IsLive t s (lowered_view l) r → ⊥) → LowersOne t s (lowered_view l) (lowered_view l)
  unlowered none = inr (none, refl)
