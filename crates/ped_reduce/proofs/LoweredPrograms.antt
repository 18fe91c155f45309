-- What comes of lowering one DO: how it is made, and how many statements it has.
use Rattle.std.proofs.Common.{◌≡◌, ℕ, ◌+◌, ◌*◌, List, [], ◌∷◌, ◌++◌, length, take, drop, replicate, Bool, true, false, Option, Some, None, filter, cond, refl, sym, ap, ◌∙◌, subst, arith, length-append, length-take-le, length-drop}
use Rattle.std.specs.Prelude.{option_map}
use Rattle.std.proofs.lemmas.List.{length-replicate}
use Rattle.ped_tree.specs.Tree.{Head, StmtTree, StmtTrees, Assign, If, Do, Print, Read, Stop, Comment}
use Rattle.ped_tree.specs.Numbering.{all_numbered, statements_count, statement_with}
use Rattle.ped_tree.proofs.Numbers.{length-all_numbered}
use Rattle.ped_rules.specs.ped_symbols.specs.Kinds.{table_of}
use Rattle.ped_rules.specs.ped_flow.specs.Questions.{IsLoop}
use Rattle.ped_rules.specs.ped_flow.proofs.Answering.{loop_fits}
use Rattle.ped_rules.specs.ped_steps.specs.Replacing.{alone}
use Rattle.ped_rules.specs.ped_steps.proofs.RunLaws.FilledGaps.{count_filled}
use Rattle.ped_rules.specs.ped_steps.proofs.RunLaws.ReplacedTrees.{HasGap, program_gap}
use Rattle.ped_rules.specs.OnlyLoops.{on_loop}
use Rattle.ped_rules.specs.Spans.{Span, span_of}
use Rattle.ped_reduce.specs.Lowering.{Partials, Lowered, and_then, near_only, fresh_arrays, partials_of, lowered_loop, repeated, is_sum, summed_origins, gained, lowered_with, lowered_statement, lowered_at}
use Rattle.ped_reduce.proofs.LoweredCounts.{lowered_count, sums_in}

-- the DO with number s is lowered: its head and its body, the values of its variable and its arrays
pub record IsMadeBy (parallel : Bool) (p : Lowered) (s : ℕ) (names : List (List ℕ)) (q : Lowered) : Type 0 where
  pub head : Head
  pub body : StmtTrees
  pub is : IsLoop p.tree (s + p.more) head body
  pub span : Span
  pub spans : near_only (span_of (table_of p.tree).constants head) ≡ Some span
  pub partials : List Partials
  pub arrays : partials_of names (fresh_arrays p.tree) ≡ Some partials
  pub made : q ≡ lowered_with parallel p s body span partials

nothing_some : (q : Lowered) → None ≡ Some q → ⊥
nothing_some q e = cc

same_lowered : (p q : Lowered) → Some p ≡ Some q → p ≡ q
same_lowered p q e = cc

module _ (parallel : Bool) (p : Lowered) (s : ℕ) (names : List (List ℕ)) (q : Lowered) where
  module _ (h : Head) (body : StmtTrees) (is : IsLoop p.tree (s + p.more) h body) where
    by_partials : (v : Span) → near_only (span_of (table_of p.tree).constants h) ≡ Some v → (o : Option (List Partials)) → partials_of names (fresh_arrays p.tree) ≡ o → option_map (lowered_with parallel p s body v) o ≡ Some q → IsMadeBy parallel p s names q
    by_partials v spans None arrays e = absurd (nothing_some q e)
    by_partials v spans (Some ps) arrays e = record { head = h; body = body; is = is; span = v; spans = spans; partials = ps; arrays = arrays; made = sym (same_lowered (lowered_with parallel p s body v ps) q e) }

    by_span : (o : Option Span) → near_only (span_of (table_of p.tree).constants h) ≡ o → and_then o (λ v. option_map (lowered_with parallel p s body v) (partials_of names (fresh_arrays p.tree))) ≡ Some q → IsMadeBy parallel p s names q
    by_span None spans e = absurd (nothing_some q e)
    by_span (Some v) spans e = by_partials v spans (partials_of names (fresh_arrays p.tree)) refl e

  by_statement : (o : Option StmtTree) → statement_with (s + p.more) p.tree ≡ o → and_then o (lowered_statement parallel p s names) ≡ Some q → IsMadeBy parallel p s names q
  by_statement None found e = absurd (nothing_some q e)
  by_statement (Some (Do h body)) found e = by_span h body found (near_only (span_of (table_of p.tree).constants h)) refl e
  by_statement (Some (Assign left right)) found e = absurd (nothing_some q e)
  by_statement (Some (If c a b)) found e = absurd (nothing_some q e)
  by_statement (Some (Print items)) found e = absurd (nothing_some q e)
  by_statement (Some (Read items)) found e = absurd (nothing_some q e)
  by_statement (Some Stop) found e = absurd (nothing_some q e)
  by_statement (Some (Comment text)) found e = absurd (nothing_some q e)

  -- how what comes of lowering is made
  pub made_by : lowered_at parallel p s names ≡ Some q → IsMadeBy parallel p s names q
  made_by e = by_statement (statement_with (s + p.more) p.tree) refl e

  -- the old and the new program differ in one gap, where the DO stood
  pub made_gap : (m : IsMadeBy parallel p s names q) → HasGap (on_loop (lowered_loop parallel m.partials)) (s + p.more) (Do m.head m.body) 1 p.tree.body q.tree.body
  made_gap m = subst (λ (r : Lowered). HasGap (on_loop (lowered_loop parallel m.partials)) (s + p.more) (Do m.head m.body) 1 p.tree.body r.tree.body) (sym m.made) (program_gap (on_loop (lowered_loop parallel m.partials)) (s + p.more) (Do m.head m.body) p.tree m.is)

  -- it has as many statements more as are gained
  pub made_count : (m : IsMadeBy parallel p s names q) → statements_count q.tree.body ≡ statements_count p.tree.body + gained m.partials m.body
  made_count m =
      let gap = made_gap m in
      let new = lowered_loop parallel m.partials m.head m.body in
      let all = count_filled (alone (Do m.head m.body)) new gap.gap in
      let before = ap statements_count gap.old_is in
      let behind = ap statements_count gap.new_is in
      let more = lowered_count parallel m.partials m.head m.body in
      omega (arith, all, before, behind, more)

repeated_count : (b : Bool) (n : ℕ) (s : StmtTree) → length (repeated b n) ≡ 1 + 2 * length (cond b (s ∷ []) [])
repeated_count true n s = refl
repeated_count false n s = refl

-- each of these statements comes from one, a sum's three from one
pub summed_length : (ps : List Partials) (ss : List StmtTree) (n : ℕ) → length (summed_origins ps ss n) ≡ length ss + 2 * sums_in ps ss
summed_length ps [] n = refl
summed_length ps (s ∷ ss) n =
    let both = length-append (repeated (is_sum ps s) n) (summed_origins ps ss (n + 1)) in
    let rest = summed_length ps ss (n + 1) in
    by (is_sum ps s) both rest
  where
    by : (b : Bool) → length (repeated b n ++ summed_origins ps ss (n + 1)) ≡ length (repeated b n) + length (summed_origins ps ss (n + 1)) → length (summed_origins ps ss (n + 1)) ≡ length ss + 2 * sums_in ps ss
        → length (repeated b n ++ summed_origins ps ss (n + 1)) ≡ length (s ∷ ss) + 2 * length (cond b (s ∷ filter (is_sum ps) ss) (filter (is_sum ps) ss))
    by true both rest = omega (arith, both, rest)
    by false both rest = omega (arith, both, rest)

module _ (parallel : Bool) (p : Lowered) (s : ℕ) (names : List (List ℕ)) (q : Lowered) (m : IsMadeBy parallel p s names q) (there : length p.origin ≡ statements_count p.tree.body) where
  -- each statement comes from one
  pub made_origins : length q.origin ≡ statements_count q.tree.body
  made_origins =
      let at = s + p.more in
      let c = statements_count m.body in
      let fit = loop_fits p.tree (s + p.more) m.head m.body m.is in
      let k = length m.partials in
      let front = take at p.origin in
      let zeros = replicate (3 * k) s in
      let inner = summed_origins m.partials (all_numbered m.body) (s + 1) in
      let exits = replicate (2 * k + 1) s in
      let behind = drop (at + c) p.origin in
      let one = length-append front zeros in
      let two = length-append (front ++ zeros) inner in
      let three = length-append (front ++ zeros ++ inner) exits in
      let four = length-append (front ++ zeros ++ inner ++ exits) behind in
      let a = length-take-le at p.origin (omega (arith, fit, there)) in
      let b = length-replicate (3 * k) s in
      let d = summed_length m.partials (all_numbered m.body) (s + 1) in
      let e = length-all_numbered m.body in
      let f = length-replicate (2 * k + 1) s in
      let g = length-drop (at + c) p.origin in
      let count = made_count parallel p s names q m in
      let whole : length (front ++ zeros ++ inner ++ exits ++ behind) ≡ statements_count q.tree.body = omega (arith, one, two, three, four, a, b, d, e, f, g, count, fit, there) in
      ap (λ (r : Lowered). length r.origin) m.made ∙ whole
