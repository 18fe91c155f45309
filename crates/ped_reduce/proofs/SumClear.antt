-- In the body of a DO with a live list the scalars stand in sums alone, in none of which one of them is added, and new arrays nowhere; no DO in it has one of them, or the DO's own variable, as its variable or in its PRIVATE list.
use Rattle.std.proofs.Common.{◌≡◌, ◌⊎◌, ℕ, suc, ◌+◌, List, [], ◌∷◌, ◌++◌, Bool, true, false, ◌&&◌, ◌||◌, Option, Some, None, is_some, inl, inr, refl, sym, ap, ◌∙◌}
use Rattle.std.specs.Prelude.{codes}
use Rattle.std.specs.List.{flat_map}
use Rattle.std.proofs.lemmas.Bool.{and_parts, both_ways, or_parts, or_left, or_right}
use Rattle.ped_base.specs.Lists.{is_same_text, is_among}
use Rattle.ped_base.proofs.NameEquality.{same_itself, same_is}
use Rattle.ped_tree.proofs.NameLaws.Collected.{among_append}
use Rattle.ped_tree.specs.Accesses.{Access, write_of, expr_reads, left_accesses, item_reads, private_writes, own_accesses}
use Rattle.ped_tree.specs.NamesIn.{expr_names, cond_names, item_names, head_names, stmt_names, stmts_names, loop_variables, all_loop_variables, private_names_in, all_private_names_in}
use Rattle.ped_tree.specs.Nests.{Loop, indices_of}
use Rattle.ped_tree.specs.Numbering.{numbered, all_numbered, statement_count, statements_count, statement_with}
use Rattle.ped_tree.specs.Tree.{ExprTree, Head, StmtTree, StmtTrees, Assign, If, Do, Print, Read, Stop, Comment, no_stmts, more_stmts, ProgramTree}
use Rattle.ped_rules.specs.ped_affine.specs.Assigned.{assigned_in, assigned_in_all}
use Rattle.ped_refs.specs.References.{Reference, numbered_accesses, statement_references, statements_references}
use Rattle.ped_rules.specs.ped_symbols.specs.RightUses.RightUses.{NameKinds, is_scalar, expr_is_right, target_is_right, cond_is_right, head_is_right, stmt_is_right, stmts_are_right}
use Rattle.ped_rules.specs.ped_flow.proofs.Truths.{untrue, or_split}
use Rattle.ped_rules.specs.ped_laws.specs.Acts.Orders.{IsIn}
use Rattle.ped_rules.specs.ped_laws.proofs.ActLaws.Lists.{in_left, in_right}
use Rattle.ped_rules.specs.ped_laws.proofs.FlowRunLaws.Standing.{Stand, first_stands, rest_stands, inner_stands, else_stands, is_there}
use Rattle.ped_reduce.specs.Lists.{listed_name, unless_named, without_list}
use Rattle.ped_reduce.specs.Sums.{Sum, sum_to}
use Rattle.ped_reduce.specs.Lowering.{Partials, and_then}
use Rattle.ped_reduce.proofs.Resembling.{scalars_of}
use Rattle.ped_reduce.proofs.SumShapes.{operand, IsSumOf, sum_is, scalar_among, scalar_of}
use Rattle.ped_reduce.proofs.SummedReferences.{not_read, sum_read, sum_right, other_sum}
use Rattle.ped_reduce.proofs.ReferencesInGaps.{loop}
use Rattle.ped_reduce.proofs.NamedReads.{expr_told, cond_told, items_told, left_told, lefts_told}
use Rattle.ped_reduce.proofs.SumStores.{is_array, is_total, is_either}
use Rattle.ped_reduce.proofs.SumBodies.{Lacks, OneOr, IsSumOr, IsClear, AreClear}

false_or : (b : Bool) → (b ≡ true → ⊥) → b ≡ false
false_or true h = absurd (h refl)
false_or false h = refl

-- an access of a statement as a reference
as_told : (n k : ℕ) (nest : List Loop) (a : Access) (accesses : List Access) → IsIn a accesses → (j : ℕ) × IsIn (record { statement = n; number = j; access = a; nest = nest }) (numbered_accesses n k nest accesses)
as_told n k nest a [] i = absurd i
as_told n k nest a (x ∷ xs) (inl e) = (k, inl (λ j. record { statement = n; number = k; access = e j; nest = nest }))
as_told n k nest a (x ∷ xs) (inr i) = let r = as_told n (suc k) nest a xs i in (r.0, inr r.1)

pub more_outside : (x : List ℕ) (ls : List Loop) (n : ℕ) (h : Head) → is_among x (indices_of ls) ≡ false → is_same_text x h.variable ≡ false → is_among x (indices_of (ls ++ loop n h ∷ [])) ≡ false
more_outside x [] n h a b = λ i. b i || false
more_outside x (l ∷ ls) n h a b =
    let p = or_parts (is_same_text x l.head.variable) (is_among x (indices_of ls)) a in
    let rest = more_outside x ls n h p.1 b in
    λ i. p.0 i || rest i

module _ (ps : List Partials) where
  abbrev Totals : List (List ℕ)
  Totals = scalars_of ps

  -- none of the arrays stands among names
  abbrev Unused : List (List ℕ) → Type 0
  Unused names = (y : List ℕ) → is_array ps y ≡ true → is_among y names ≡ false

  -- nor does one of the scalars
  abbrev Quiet : List (List ℕ) → Type 0
  Quiet names = (y : List ℕ) → is_among y names ≡ true → is_among y (scalars_of ps) ≡ true → ⊥

  total_is : (y : List ℕ) (qs : List Partials) → is_total qs y ≡ is_among y (scalars_of qs)
  total_is y [] = refl
  total_is y (q ∷ qs) = ap (λ (b : Bool). is_same_text y q.scalar || b) (total_is y qs)

  lacks_by : (names : List (List ℕ)) → ((y : List ℕ) → is_among y names ≡ true → is_either ps y ≡ false) → Lacks ps names
  lacks_by [] f = refl
  lacks_by (x ∷ xs) f =
      let first = f x (or_left (is_same_text x x) (is_among x xs) (same_itself x)) in
      let rest = lacks_by xs (λ y k. f y (or_right (is_same_text y x) (is_among y xs) k)) in
      λ i. first i || rest i

  lacks : (names : List (List ℕ)) → Unused names → Quiet names → Lacks ps names
  lacks names unused quiet = lacks_by names (λ y k. (
      let no_total : is_total ps y ≡ false = total_is y ps ∙ false_or (is_among y (scalars_of ps)) (quiet y k) in
      let no_array : is_array ps y ≡ false = false_or (is_array ps y) (λ e. both_ways (is_among y names) (unused y e) k) in
      λ i. no_total i || no_array i
      ))

  unused_parts : (xs ys : List (List ℕ)) → Unused (xs ++ ys) → Unused xs × Unused ys
  unused_parts xs ys h = (λ y e. (or_parts (is_among y xs) (is_among y ys) (sym (among_append y xs ys) ∙ h y e)).0, λ y e. (or_parts (is_among y xs) (is_among y ys) (sym (among_append y xs ys) ∙ h y e)).1)

  module _ (t : ProgramTree) (k : NameKinds) (cs : List (List ℕ)) (v : List ℕ) (scalars : (x : List ℕ) → is_among x (scalars_of ps) ≡ true → is_scalar k x ≡ true) (named : (x : List ℕ) → is_among x (scalars_of ps) ≡ true → is_among x cs ≡ false) where
    -- the statement of a reference to one of the scalars is a sum of it
    abbrev AreInSums : List Reference → Type 0
    AreInSums refs = (r : Reference) → IsIn r refs → is_among r.access.name (scalars_of ps) ≡ true → is_some (and_then (statement_with r.statement t) (sum_to r.access.name)) ≡ true

    abbrev Outside : List Loop → Type 0
    Outside nest = (x : List ℕ) → is_among x (scalars_of ps) ≡ true → is_among x (indices_of nest) ≡ false

    -- a statement that refers to one of the scalars is a sum of it
    module _ (nest : List Loop) (n : ℕ) (s : StmtTree) (there : statement_with n t ≡ Some s) (sums : AreInSums (numbered_accesses n 1 nest (own_accesses cs (indices_of nest) s))) where
      summed_there : (y : List ℕ) → is_among y (scalars_of ps) ≡ true → (a : Access) × IsIn a (own_accesses cs (indices_of nest) s) × (a.name ≡ y) → is_some (sum_to y s) ≡ true
      summed_there y among (a, i, e) =
          let r = as_told n 1 nest a (own_accesses cs (indices_of nest) s) i in
          let summed = sums (record { statement = n; number = r.0; access = a; nest = nest }) r.1 (ap (λ (z : List ℕ). is_among z (scalars_of ps)) e ∙ among) in
          ap (λ (z : List ℕ). is_some (sum_to z s)) (sym e) ∙ ap (λ (o : Option StmtTree). is_some (and_then o (sum_to a.name))) (sym there) ∙ summed

    -- an assignment
    module _ (nest : List Loop) (n : ℕ) (left right : ExprTree) (there : statement_with n t ≡ Some (Assign left right)) (outside : Outside nest) (lefts : target_is_right k left ≡ true) (rights : expr_is_right k right ≡ true)
        (sums : AreInSums (numbered_accesses n 1 nest (own_accesses cs (indices_of nest) (Assign left right)))) (unused : Unused (stmt_names (Assign left right))) where
      abbrev s : StmtTree
      s = Assign left right

      refers : (y : List ℕ) → is_among y (scalars_of ps) ≡ true → is_among y (stmt_names (Assign left right)) ≡ true → (a : Access) × IsIn a (own_accesses cs (indices_of nest) (Assign left right)) × (a.name ≡ y)
      refers y among h = elim (or_split (is_among y (expr_names left)) (is_among y (expr_names right)) (sym (among_append y (expr_names left) (expr_names right)) ∙ h)) [
        | inl j ↦ (let a = left_told y cs (indices_of nest) (named y among) (outside y among) k left lefts j in (a.0, in_right a.0 (expr_reads cs (indices_of nest) right) (left_accesses cs (indices_of nest) left) a.1, a.2))
        | inr j ↦ (let a = expr_told y cs (indices_of nest) (named y among) (outside y among) right j in (a.0, in_left a.0 (expr_reads cs (indices_of nest) right) (left_accesses cs (indices_of nest) left) a.1, a.2))
      ]

      -- no scalar stands in what is added
      operand_quiet : (p : Partials) (sum : Sum) → IsIn p ps → IsSumOf p.scalar left right sum → Quiet (expr_names (operand sum))
      operand_quiet p sum i of y h among =
          let a = expr_told y cs (indices_of nest) (named y among) (outside y among) (operand sum) h in
          by (is_same_text y p.scalar) refl a
        where
          by : (b : Bool) → is_same_text y p.scalar ≡ b → (a : Access) × IsIn a (expr_reads cs (indices_of nest) (operand sum)) × (a.name ≡ y) → ⊥
          by true e (a, j, is) =
              let same = same_is y p.scalar e in
              let apart = not_read k p.scalar (scalars p.scalar (scalar_among p ps i)) cs (indices_of nest) (operand sum) a (sum_right k p.scalar left right sum of rights) of.lacks j in
              both_ways (is_same_text p.scalar a.name) apart (ap (is_same_text p.scalar) (is ∙ same) ∙ same_itself p.scalar)
          by false e (a, j, is) =
              let none = other_sum p.scalar y left right sum of e in
              let some = summed_there nest n (Assign left right) there sums y among (a, in_left a (expr_reads cs (indices_of nest) right) (left_accesses cs (indices_of nest) left) (sum_read cs (indices_of nest) p.scalar left right sum of a j), is) in
              untrue (ap is_some (sym none) ∙ some)

      -- nor an array
      operand_unused : (x : List ℕ) (sum : Sum) → IsSumOf x left right sum → Unused (expr_names (operand sum))
      operand_unused x sum of y e = false_or (is_among y (expr_names (operand sum))) (λ h. both_ways (is_among y (stmt_names (Assign left right))) (unused y e) (among_append y (expr_names left) (expr_names right) ∙ or_right (is_among y (expr_names left)) (is_among y (expr_names right)) (on_right h)))
        where
          wide : (a b : List (List ℕ)) (c : ExprTree) → expr_names c ≡ a ++ b → (is_among y a ≡ true) ⊎ (is_among y b ≡ true) → is_among y (expr_names c) ≡ true
          wide a b c q (inl h) = ap (is_among y) q ∙ among_append y a b ∙ or_left (is_among y a) (is_among y b) h
          wide a b c q (inr h) = ap (is_among y) q ∙ among_append y a b ∙ or_right (is_among y a) (is_among y b) h

          on_right : is_among y (expr_names (operand sum)) ≡ true → is_among y (expr_names right) ≡ true
          on_right h = elim of.shape [
            | inl q ↦ wide (x ∷ []) (expr_names (operand sum)) right (ap expr_names q) (inr h)
            | inr z ↦ elim z [
              | inl q ↦ wide (expr_names (operand sum)) (x ∷ []) right (ap expr_names q) (inl h)
              | inr q ↦ wide (x ∷ []) (expr_names (operand sum)) right (ap expr_names q) (inr h)
            ]
          ]

      abbrev IsDone : List Partials → Type 0
      IsDone rest = (q : Partials) → IsIn q ps → IsIn q rest ⊎ (sum_to q.scalar (Assign left right) ≡ None)

      sum_or : (rest : List Partials) → ((p : Partials) → IsIn p rest → IsIn p ps) → IsDone rest → IsSumOr ps rest (Assign left right)
      sum_or [] below done = lacks (stmt_names (Assign left right)) unused (λ y h among. (
          let q = scalar_of y ps among in
          let some = summed_there nest n (Assign left right) there sums y among (refers y among h) in
          none_there q.0 (done q.0 q.1) (ap (λ (z : List ℕ). is_some (sum_to z (Assign left right))) (sym q.2) ∙ some)
          ))
        where
          none_there : (q : Partials) → IsIn q [] ⊎ (sum_to q.scalar (Assign left right) ≡ None) → is_some (sum_to q.scalar (Assign left right)) ≡ true → ⊥
          none_there q (inl i) some = absurd i
          none_there q (inr e) some = untrue (ap is_some (sym e) ∙ some)
      sum_or (p ∷ rest) below done = by (sum_to p.scalar (Assign left right)) refl (sum_or rest (λ q i. below q (inr i)))
        where
          fewer : sum_to p.scalar (Assign left right) ≡ None → IsDone rest
          fewer e q i = go (done q i)
            where
              go : IsIn q (p ∷ rest) ⊎ (sum_to q.scalar (Assign left right) ≡ None) → IsIn q rest ⊎ (sum_to q.scalar (Assign left right) ≡ None)
              go (inl (inl is)) = inr (ap (λ (o : Partials). sum_to o.scalar (Assign left right)) is ∙ e)
              go (inl (inr j)) = inl j
              go (inr none) = inr none

          by : (o : Option Sum) → sum_to p.scalar (Assign left right) ≡ o → (IsDone rest → IsSumOr ps rest (Assign left right)) → OneOr ps o (IsSumOr ps rest (Assign left right))
          by None e more = more (fewer e)
          by (Some sum) e more =
              let of = sum_is p.scalar sum left right e in
              lacks (expr_names (operand sum)) (operand_unused p.scalar sum of) (operand_quiet p sum (below p (inl refl)) of)

      assignment_is_clear : IsSumOr ps ps (Assign left right)
      assignment_is_clear = sum_or ps (λ p i. i) (λ q i. inl i)

    -- a statement that is no sum refers to no scalar
    module _ (nest : List Loop) (n : ℕ) (s : StmtTree) (there : statement_with n t ≡ Some s) (sums : AreInSums (numbered_accesses n 1 nest (own_accesses cs (indices_of nest) s))) (no_sum : (y : List ℕ) → sum_to y s ≡ None) where
      quiet_by : (names : List (List ℕ)) → ((y : List ℕ) → is_among y (scalars_of ps) ≡ true → is_among y names ≡ true → (a : Access) × IsIn a (own_accesses cs (indices_of nest) s) × (a.name ≡ y)) → Quiet names
      quiet_by names refers y h among = untrue (ap is_some (sym (no_sum y)) ∙ summed_there nest n s there sums y among (refers y among h))

    -- none of the scalars is the variable of a DO in these, or in a PRIVATE list
    abbrev AreFree : List (List ℕ) → Type 0
    AreFree names = (x : List ℕ) → is_among x (scalars_of ps) ≡ true → is_among x names ≡ false

    free_parts : (xs ys : List (List ℕ)) → AreFree (xs ++ ys) → AreFree xs × AreFree ys
    free_parts xs ys h = (λ y e. (or_parts (is_among y xs) (is_among y ys) (sym (among_append y xs ys) ∙ h y e)).0, λ y e. (or_parts (is_among y xs) (is_among y ys) (sym (among_append y xs ys) ∙ h y e)).1)

    names_apart : (x : List ℕ) (xs ys : List (List ℕ)) → is_among x (xs ++ ys) ≡ false → (is_among x xs ≡ false) × (is_among x ys ≡ false)
    names_apart x xs ys h = or_parts (is_among x xs) (is_among x ys) (sym (among_append x xs ys) ∙ h)

    both_apart : (x : List ℕ) (xs ys : List (List ℕ)) → is_among x xs ≡ false → is_among x ys ≡ false → is_among x (xs ++ ys) ≡ false
    both_apart x xs ys h j = among_append x xs ys ∙ (λ i. h i || j i)

    in_sums_parts : (xs ys : List Reference) → AreInSums (xs ++ ys) → AreInSums xs × AreInSums ys
    in_sums_parts xs ys h = (λ r i. h r (in_left r xs ys i), λ r i. h r (in_right r xs ys i))

    -- what isn't assigned is the variable of no DO
    mutual
      unassigned_loop : (s : StmtTree) → is_among v (assigned_in s) ≡ false → is_among v (loop_variables s) ≡ false
      unassigned_loop (Assign left right) h = refl
      unassigned_loop (If c a b) h = let p = names_apart v (assigned_in_all a) (assigned_in_all b) h in both_apart v (all_loop_variables a) (all_loop_variables b) (unassigned_loops a p.0) (unassigned_loops b p.1)
      unassigned_loop (Do g body) h =
          let p = or_parts (is_same_text v g.variable) (is_among v (g.private ++ assigned_in_all body)) h in
          let inner = unassigned_loops body (names_apart v g.private (assigned_in_all body) p.1).1 in
          λ i. p.0 i || inner i
      unassigned_loop (Print items) h = refl
      unassigned_loop (Read items) h = refl
      unassigned_loop Stop h = refl
      unassigned_loop (Comment text) h = refl

      unassigned_loops : (ss : StmtTrees) → is_among v (assigned_in_all ss) ≡ false → is_among v (all_loop_variables ss) ≡ false
      unassigned_loops no_stmts h = refl
      unassigned_loops (more_stmts s rest) h = let p = names_apart v (assigned_in s) (assigned_in_all rest) h in both_apart v (loop_variables s) (all_loop_variables rest) (unassigned_loop s p.0) (unassigned_loops rest p.1)

    mutual
      clear_one : (nest : List Loop) (n : ℕ) (s : StmtTree) → Stand t n (numbered s) → Outside nest → stmt_is_right k s ≡ true → AreInSums (statement_references cs nest n s) → Unused (stmt_names s) → AreFree (loop_variables s) → AreFree (private_names_in s) → is_among v (assigned_in s) ≡ false → IsClear ps v s
      clear_one nest n (Assign left right) st outside correct sums unused loops private own =
          let r = and_parts (target_is_right k left) (expr_is_right k right) correct in
          assignment_is_clear nest n left right (is_there t (Assign left right) [] n st) outside r.0 r.1 sums unused
      clear_one nest n (If c a b) st outside correct sums unused loops private own =
          let s = If c a b in
          let inside = inner_stands t s (all_numbered a ++ all_numbered b) n st in
          let r = and_parts (cond_is_right k c && stmts_are_right k a) (stmts_are_right k b) correct in
          let mine = numbered_accesses n 1 nest (own_accesses cs (indices_of nest) s) in
          let p = in_sums_parts (mine ++ statements_references cs nest (n + 1) a) (statements_references cs nest (n + 1 + statements_count a) b) sums in
          let q = in_sums_parts mine (statements_references cs nest (n + 1) a) p.0 in
          let u = unused_parts (cond_names c ++ stmts_names a) (stmts_names b) unused in
          let w = unused_parts (cond_names c) (stmts_names a) u.0 in
          let l = free_parts (all_loop_variables a) (all_loop_variables b) loops in
          let d = free_parts (all_private_names_in a) (all_private_names_in b) private in
          let o = names_apart v (assigned_in_all a) (assigned_in_all b) own in (
            lacks (cond_names c) w.0 (quiet_by nest n s (is_there t s (all_numbered a ++ all_numbered b) n st) q.0 (λ y. refl) (cond_names c) (λ y among h. cond_told y cs (indices_of nest) (named y among) (outside y among) c h)),
            (
              clear_all nest (n + 1) a (first_stands t (n + 1) (all_numbered a) (all_numbered b) inside) outside (and_parts (cond_is_right k c) (stmts_are_right k a) r.0).1 q.1 w.1 l.0 d.0 o.0,
              clear_all nest (n + 1 + statements_count a) b (else_stands t a b (n + 1) inside) outside r.1 p.1 u.1 l.1 d.1 o.1,
            ),
          )
      clear_one nest n (Do g body) st outside correct sums unused loops private own =
          let s = Do g body in
          let there = is_there t s (all_numbered body) n st in
          let r = and_parts (head_is_right k g) (stmts_are_right k body) correct in
          let mine = numbered_accesses n 1 nest (own_accesses cs (indices_of nest) s) in
          let inner = nest ++ loop n g ∷ [] in
          let p = in_sums_parts mine (statements_references cs inner (n + 1) body) sums in
          let u = unused_parts (head_names g) (stmts_names body) unused in
          let names = expr_names g.first ++ expr_names g.last ++ expr_names g.step ++ g.private in
          let behind : Unused names = λ y e. (or_parts (is_same_text y g.variable) (is_among y names) ((unused_parts g.rejected (g.variable ∷ names) u.0).1 y e)).1 in
          let bounds = unused_parts (expr_names g.first) (expr_names g.last) (unused_parts (expr_names g.first ++ expr_names g.last) (expr_names g.step) (unused_parts (expr_names g.first ++ expr_names g.last ++ expr_names g.step) g.private behind).0).0 in
          let d = free_parts g.private (all_private_names_in body) private in
          let variable : AreFree (g.variable ∷ []) = λ x e. (let z = (or_parts (is_same_text x g.variable) (is_among x (all_loop_variables body)) (loops x e)).0 in λ i. z i || false) in
          let inside : AreFree (all_loop_variables body) = λ x e. (or_parts (is_same_text x g.variable) (is_among x (all_loop_variables body)) (loops x e)).1 in
          let o = or_parts (is_same_text v g.variable) (is_among v (g.private ++ assigned_in_all body)) own in
          let w = names_apart v g.private (assigned_in_all body) o.1 in
          let reads = expr_reads cs (indices_of nest) g.first in
          let ends = expr_reads cs (indices_of nest) g.last in
          let writes = private_writes cs g.private in (
            record {
              first = lacks (expr_names g.first) bounds.0 (quiet_by nest n s there p.0 (λ y. refl) (expr_names g.first) (λ y among h. (let a = expr_told y cs (indices_of nest) (named y among) (outside y among) g.first h in (a.0, in_left a.0 (reads ++ ends) writes (in_left a.0 reads ends a.1), a.2))));
              last = lacks (expr_names g.last) bounds.1 (quiet_by nest n s there p.0 (λ y. refl) (expr_names g.last) (λ y among h. (let a = expr_told y cs (indices_of nest) (named y among) (outside y among) g.last h in (a.0, in_left a.0 (reads ++ ends) writes (in_right a.0 reads ends a.1), a.2))));
              scalars = λ q i. (
                  let among = scalar_among q ps i in
                  let one = (or_parts (is_same_text q.scalar g.variable) (is_among q.scalar (all_loop_variables body)) (loops q.scalar among)).0 in
                  let rest = both_apart q.scalar g.private (all_loop_variables body) (d.0 q.scalar among) (inside q.scalar among) in
                  λ j. one j || rest j
                  );
              variable = (let rest = both_apart v g.private (all_loop_variables body) w.0 (unassigned_loops body w.1) in λ j. o.0 j || rest j);
            },
            clear_all inner (n + 1) body (inner_stands t s (all_numbered body) n st) (λ x among. more_outside x nest n g (outside x among) (or_parts (is_same_text x g.variable) false (variable x among)).0) r.1 p.1 u.1 inside d.1 w.1,
          )
      clear_one nest n (Print items) st outside correct sums unused loops private own =
          lacks (flat_map item_names items) unused (quiet_by nest n (Print items) (is_there t (Print items) [] n st) sums (λ y. refl) (flat_map item_names items) (λ y among h. (
          let a = items_told y cs (indices_of nest) (named y among) (outside y among) items h in
          (a.0, in_left a.0 (flat_map (item_reads cs (indices_of nest)) items) (write_of (codes "(OUT)") [] ∷ []) a.1, a.2)
          )))
      clear_one nest n (Read items) st outside correct sums unused loops private own =
          lacks (flat_map expr_names items) unused (quiet_by nest n (Read items) (is_there t (Read items) [] n st) sums (λ y. refl) (flat_map expr_names items) (λ y among h. (
          let a = lefts_told y cs (indices_of nest) (named y among) (outside y among) k items correct h in
          (a.0, inr a.1, a.2)
          )))
      clear_one nest n Stop st outside correct sums unused loops private own = tt
      clear_one nest n (Comment text) st outside correct sums unused loops private own = tt

      pub clear_all : (nest : List Loop) (n : ℕ) (ss : StmtTrees) → Stand t n (all_numbered ss) → ((x : List ℕ) → is_among x (scalars_of ps) ≡ true → is_among x (indices_of nest) ≡ false) → stmts_are_right k ss ≡ true
          → ((r : Reference) → IsIn r (statements_references cs nest n ss) → is_among r.access.name (scalars_of ps) ≡ true → is_some (and_then (statement_with r.statement t) (sum_to r.access.name)) ≡ true)
          → ((y : List ℕ) → is_array ps y ≡ true → is_among y (stmts_names ss) ≡ false) → ((x : List ℕ) → is_among x (scalars_of ps) ≡ true → is_among x (all_loop_variables ss) ≡ false) → ((x : List ℕ) → is_among x (scalars_of ps) ≡ true → is_among x (all_private_names_in ss) ≡ false)
          → is_among v (assigned_in_all ss) ≡ false → AreClear ps v ss
      clear_all nest n no_stmts st outside correct sums unused loops private own = tt
      clear_all nest n (more_stmts s rest) st outside correct sums unused loops private own =
          let r = and_parts (stmt_is_right k s) (stmts_are_right k rest) correct in
          let p = in_sums_parts (statement_references cs nest n s) (statements_references cs nest (n + statement_count s) rest) sums in
          let u = unused_parts (stmt_names s) (stmts_names rest) unused in
          let l = free_parts (loop_variables s) (all_loop_variables rest) loops in
          let d = free_parts (private_names_in s) (all_private_names_in rest) private in
          let o = names_apart v (assigned_in s) (assigned_in_all rest) own in (
            clear_one nest n s (first_stands t n (numbered s) (all_numbered rest) st) outside r.0 p.0 u.0 l.0 d.0 o.0,
            clear_all nest (n + statement_count s) rest (rest_stands t s rest n st) outside r.1 p.1 u.1 l.1 d.1 o.1,
          )

  -- a list is comments: without it the statements are clear, too
  module _ (v : List ℕ) where
    unless_clear : (o : Option (List ℕ)) (text : List ℕ) (rest : StmtTrees) → AreClear ps v (more_stmts (Comment text) rest) → AreClear ps v (without_list rest) → AreClear ps v (unless_named o (more_stmts (Comment text) rest) (without_list rest))
    unless_clear None text rest whole others = whole
    unless_clear (Some x) text rest whole others = others

    pub without_clear : (ss : StmtTrees) → AreClear ps v ss → AreClear ps v (without_list ss)
    without_clear no_stmts h = h
    without_clear (more_stmts (Comment text) rest) h = unless_clear (listed_name text) text rest h (without_clear rest h.1)
    without_clear (more_stmts (Assign left right) rest) h = h
    without_clear (more_stmts (If c a b) rest) h = h
    without_clear (more_stmts (Do g body) rest) h = h
    without_clear (more_stmts (Print items) rest) h = h
    without_clear (more_stmts (Read items) rest) h = h
    without_clear (more_stmts Stop rest) h = h
