-- A name that stands in what a DO becomes whose sums are kept apart stands in the DO, or is that of one of the scalars or of their arrays; and the other way round.
use Rattle.std.proofs.Common.{◌≡◌, ◌⊎◌, ℕ, List, [], ◌∷◌, ◌++◌, Bool, true, false, ◌||◌, inl, inr, refl, sym, ap, ◌∙◌}
use Rattle.std.proofs.lemmas.Bool.{or_parts, or_left, or_right}
use Rattle.ped_base.specs.Lists.{is_same_text, is_among}
use Rattle.ped_tree.proofs.NameLaws.Collected.{among_append}
use Rattle.ped_tree.specs.declared.expressions.Intrinsic.TheVariants.{Mod}
use Rattle.ped_tree.specs.Tree.{ExprTree, Int, Var, Add, Div, Call, no_exprs, more_exprs, Head, StmtTree, StmtTrees, Assign, If, Do, Print, Read, Stop, Comment, no_stmts, more_stmts}
use Rattle.ped_tree.specs.NamesIn.{expr_names, cond_names, head_names, stmt_names, stmts_names}
use Rattle.ped_rules.specs.ped_flow.proofs.Truths.{or_split}
use Rattle.ped_rules.specs.ped_laws.specs.Acts.Orders.{IsIn}
use Rattle.ped_rules.specs.ped_steps.specs.Replacing.{followed, alone}
use Rattle.ped_rules.specs.ped_steps.specs.Runs.Gaps.{Gap, at_front, past, in_then, in_else, in_body, filled}
use Rattle.ped_reduce.specs.Lists.{without_list}
use Rattle.ped_reduce.specs.Sums.{Sum, plus, minus}
use Rattle.ped_reduce.specs.Lowering.{Partials, at, zeros, with_sum, added_apart, sum_apart, summed, all_summed, exit, exits, bare, lowered_loop}
use Rattle.ped_reduce.proofs.SumShapes.{operand, IsSumOf, IsApart, IsBare, apart_or_bare}
use Rattle.ped_reduce.proofs.LoweredNames.{names_followed, without_names}

-- the name is none of a scalar and its arrays
pub record IsUnlike (y : List ℕ) (p : Partials) : Type 0 where
  pub scalar : is_same_text y p.scalar ≡ false
  pub high : is_same_text y p.high ≡ false
  pub low : is_same_text y p.low ≡ false
  pub flag : is_same_text y p.flag ≡ false

module _ (y : List ℕ) where
  -- the name isn't among these
  abbrev Lacks : List (List ℕ) → Type 0
  Lacks names = is_among y names ≡ false

  both : (xs ys : List (List ℕ)) → Lacks xs → Lacks ys → Lacks (xs ++ ys)
  both xs ys h k = among_append y xs ys ∙ (λ i. h i || k i)

  parts : (xs ys : List (List ℕ)) → Lacks (xs ++ ys) → Lacks xs × Lacks ys
  parts xs ys h = or_parts (is_among y xs) (is_among y ys) (sym (among_append y xs ys) ∙ h)

  module _ (v : List ℕ) (ps : List Partials) (other : is_same_text y v ≡ false) (unlike : (p : Partials) → IsIn p ps → IsUnlike y p) where
    element : (x : List ℕ) → is_same_text y x ≡ false → Lacks (expr_names (at x v))
    element x h = λ i. h i || (other i || false)

    zeros_lack : (qs : List Partials) → ((p : Partials) → IsIn p qs → IsIn p ps) → Lacks (stmts_names (zeros v qs))
    zeros_lack [] all = refl
    zeros_lack (p ∷ qs) all =
        let own = unlike p (all p (inl refl)) in
        let rest = zeros_lack qs (λ q i. all q (inr i)) in
        λ i. own.high i || (other i || (own.low i || (other i || (own.flag i || (other i || rest i)))))

    with_lacks : (a : ExprTree) (sum : Sum) → Lacks (expr_names a) → Lacks (expr_names (operand sum)) → Lacks (expr_names (with_sum a sum))
    with_lacks a (plus e) h k = both (expr_names a) (expr_names e) h k
    with_lacks a (minus e) h k = both (expr_names a) (expr_names e) h k

    apart_lacks : (p : Partials) (sum : Sum) → IsIn p ps → Lacks (expr_names (operand sum)) → Lacks (stmts_names (added_apart v p sum))
    apart_lacks p sum i h =
        let own = unlike p i in
        let high = at p.high v in
        let low = at p.low v in
        let value = with_sum low sum in
        let with_it = with_lacks low sum (element p.low own.low) h in
        let first = Assign high (Add high (Div value (Int 65536))) in
        let second = Assign low (Call Mod (more_exprs value (more_exprs (Int 65536) no_exprs))) in
        let third = alone (Assign (at p.flag v) (Int 1)) in
        both (stmt_names first) (stmts_names (more_stmts second third))
        (both (expr_names high) (expr_names high ++ (expr_names value ++ [])) (element p.high own.high) (both (expr_names high) (expr_names value ++ []) (element p.high own.high) (both (expr_names value) [] with_it refl)))
        (both (stmt_names second) (stmts_names third) (both (expr_names low) (expr_names value ++ []) (element p.low own.low) (both (expr_names value) [] with_it refl)) (λ j. own.flag j || (other j || false)))

    operand_lacks : (x : List ℕ) (left right : ExprTree) (sum : Sum) → IsSumOf x left right sum → Lacks (stmt_names (Assign left right)) → Lacks (expr_names (operand sum))
    operand_lacks x left right sum of h = elim of.shape [
      | inl q ↦ (parts (expr_names (Var x)) (expr_names (operand sum)) (ap (λ (e : ExprTree). is_among y (expr_names e)) (sym q) ∙ on_right)).1
      | inr z ↦ elim z [
        | inl q ↦ (parts (expr_names (operand sum)) (expr_names (Var x)) (ap (λ (e : ExprTree). is_among y (expr_names e)) (sym q) ∙ on_right)).0
        | inr q ↦ (parts (expr_names (Var x)) (expr_names (operand sum)) (ap (λ (e : ExprTree). is_among y (expr_names e)) (sym q) ∙ on_right)).1
      ]
    ]
      where
        on_right : Lacks (expr_names right)
        on_right = (parts (expr_names left) (expr_names right) h).1

    assigned_lacks : (left right : ExprTree) (ws : StmtTrees) → IsApart v ps left right ws ⊎ IsBare ps left right ws → Lacks (stmt_names (Assign left right)) → Lacks (stmts_names ws)
    assigned_lacks left right ws (inl a) h = ap (λ (ts : StmtTrees). is_among y (stmts_names ts)) a.is ∙ apart_lacks a.partials a.sum a.among (operand_lacks a.partials.scalar left right a.sum a.of h)
    assigned_lacks left right ws (inr b) h = ap (λ (ts : StmtTrees). is_among y (stmts_names ts)) b.is ∙ both (stmt_names (Assign left right)) [] h refl

    mutual
      lacks_still : (s : StmtTree) → Lacks (stmt_names s) → Lacks (stmts_names (summed v ps s))
      lacks_still (Assign left right) h = assigned_lacks left right (sum_apart v ps (Assign left right)) (apart_or_bare v left right ps) h
      lacks_still (If c a b) h =
          let x = all_summed v ps a in
          let z = all_summed v ps b in
          let p = parts (cond_names c ++ stmts_names a) (stmts_names b) h in
          let q = parts (cond_names c) (stmts_names a) p.0 in
          both (stmt_names (If c x z)) [] (both (cond_names c ++ stmts_names x) (stmts_names z) (both (cond_names c) (stmts_names x) q.0 (all_lack a q.1)) (all_lack b p.1)) refl
      lacks_still (Do g body) h =
          let x = all_summed v ps body in
          let p = parts (head_names g) (stmts_names body) h in
          both (stmt_names (Do g x)) [] (both (head_names g) (stmts_names x) p.0 (all_lack body p.1)) refl
      lacks_still (Print items) h = both (stmt_names (Print items)) [] h refl
      lacks_still (Read items) h = both (stmt_names (Read items)) [] h refl
      lacks_still Stop h = refl
      lacks_still (Comment text) h = refl

      all_lack : (ss : StmtTrees) → Lacks (stmts_names ss) → Lacks (stmts_names (all_summed v ps ss))
      all_lack no_stmts h = refl
      all_lack (more_stmts s rest) h =
          let p = parts (stmt_names s) (stmts_names rest) h in
          ap (is_among y) (names_followed y (summed v ps s) (all_summed v ps rest)) ∙ both (stmts_names (summed v ps s)) (stmts_names (all_summed v ps rest)) (lacks_still s p.0) (all_lack rest p.1)

    exit_lacks : (p : Partials) → IsIn p ps → Lacks (stmt_names (exit v p))
    exit_lacks p i =
        let own = unlike p i in
        λ j. own.flag j || (other j || (own.scalar j || (own.scalar j || (own.high j || (other j || (own.low j || (other j || false)))))))

    exits_lack : (qs : List Partials) → ((p : Partials) → IsIn p qs → IsIn p ps) → Lacks (stmts_names (exits v qs))
    exits_lack [] all = refl
    exits_lack (p ∷ qs) all = both (stmt_names (exit v p)) (stmts_names (exits v qs)) (exit_lacks p (all p (inl refl))) (exits_lack qs (λ q i. all q (inr i)))

  -- what doesn't stand in the DO doesn't stand in what it becomes
  module _ (ps : List Partials) (unlike : (p : Partials) → IsIn p ps → IsUnlike y p) (parallel : Bool) (h : Head) (body : StmtTrees) where
    abbrev new : StmtTrees
    new = followed (zeros h.variable ps) (all_summed h.variable ps (without_list body))

    pub lowered_lacks : is_among y (stmt_names (Do h body)) ≡ false → is_among y (stmts_names (lowered_loop parallel ps h body)) ≡ false
    lowered_lacks none =
        let p = parts (head_names h) (stmts_names body) none in
        let q = parts h.rejected (h.variable ∷ (expr_names h.first ++ expr_names h.last ++ expr_names h.step ++ h.private)) p.0 in
        let own = or_parts (is_same_text y h.variable) (is_among y (expr_names h.first ++ expr_names h.last ++ expr_names h.step ++ h.private)) q.1 in
        let bounds = (parts (expr_names h.first ++ expr_names h.last ++ expr_names h.step) h.private own.1).0 in
        let zero = zeros_lack h.variable ps own.0 unlike ps (λ r i. i) in
        let sums = all_lack h.variable ps own.0 unlike (without_list body) (ap (is_among y) (without_names y h.variable ps body) ∙ p.1) in
        let inner = ap (is_among y) (names_followed y (zeros h.variable ps) (all_summed h.variable ps (without_list body))) ∙ both (stmts_names (zeros h.variable ps)) (stmts_names (all_summed h.variable ps (without_list body))) zero sums in
        let ends = exits_lack h.variable ps own.0 unlike ps (λ r i. i) in
        let bare_head : Lacks (head_names (bare h)) = λ i. own.0 i || both (expr_names h.first ++ expr_names h.last ++ expr_names h.step) [] bounds refl i in
        both (head_names h ++ stmts_names new) (stmts_names (alone (Do (bare h) (exits h.variable ps)))) (both (head_names h) (stmts_names new) p.0 inner)
        (both (stmt_names (Do (bare h) (exits h.variable ps))) [] (both (head_names (bare h)) (stmts_names (exits h.variable ps)) bare_head ends) refl)

-- where a name that stands in these statements stands in those, it stands in a whole with those where it stands in the whole with these
module _ (y : List ℕ) (a b : StmtTrees) (more : is_among y (stmts_names a) ≡ true → is_among y (stmts_names b) ≡ true) where
  abbrev Has : List (List ℕ) → Type 0
  Has names = is_among y names ≡ true

  first_more : (xs us zs : List (List ℕ)) → (Has xs → Has us) → Has (xs ++ zs) → Has (us ++ zs)
  first_more xs us zs f h = among_append y us zs ∙ elim (or_split (is_among y xs) (is_among y zs) (sym (among_append y xs zs) ∙ h)) [
    | inl j ↦ or_left (is_among y us) (is_among y zs) (f j)
    | inr j ↦ or_right (is_among y us) (is_among y zs) j
  ]

  second_more : (zs xs us : List (List ℕ)) → (Has xs → Has us) → Has (zs ++ xs) → Has (zs ++ us)
  second_more zs xs us f h = among_append y zs us ∙ elim (or_split (is_among y zs) (is_among y xs) (sym (among_append y zs xs) ∙ h)) [
    | inl j ↦ or_left (is_among y zs) (is_among y us) j
    | inr j ↦ or_right (is_among y zs) (is_among y us) (f j)
  ]

  pub filled_more : (gap : Gap) → is_among y (stmts_names (filled gap a)) ≡ true → is_among y (stmts_names (filled gap b)) ≡ true
  filled_more (at_front rest) h = ap (is_among y) (names_followed y b rest) ∙ first_more (stmts_names a) (stmts_names b) (stmts_names rest) more (ap (is_among y) (sym (names_followed y a rest)) ∙ h)
  filled_more (past z gap) h = second_more (stmt_names z) (stmts_names (filled gap a)) (stmts_names (filled gap b)) (filled_more gap) h
  filled_more (in_then c gap other rest) h =
      let x = filled gap a in
      let z = filled gap b in
      first_more (cond_names c ++ stmts_names x ++ stmts_names other) (cond_names c ++ stmts_names z ++ stmts_names other) (stmts_names rest)
      (first_more (cond_names c ++ stmts_names x) (cond_names c ++ stmts_names z) (stmts_names other) (second_more (cond_names c) (stmts_names x) (stmts_names z) (filled_more gap))) h
  filled_more (in_else c first gap rest) h =
      let x = filled gap a in
      let z = filled gap b in
      first_more (cond_names c ++ stmts_names first ++ stmts_names x) (cond_names c ++ stmts_names first ++ stmts_names z) (stmts_names rest) (second_more (cond_names c ++ stmts_names first) (stmts_names x) (stmts_names z) (filled_more gap)) h
  filled_more (in_body g gap rest) h =
      let x = filled gap a in
      let z = filled gap b in
      first_more (head_names g ++ stmts_names x) (head_names g ++ stmts_names z) (stmts_names rest) (second_more (head_names g) (stmts_names x) (stmts_names z) (filled_more gap)) h
