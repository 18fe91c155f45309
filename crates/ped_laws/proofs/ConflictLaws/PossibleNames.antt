-- The loops round a reference assign only names that the outermost of them assigns.
use Rattle.std.proofs.Common.{◌≡◌, ℕ, suc, ◌+◌, ◌-◌, ◌==◌, List, [], ◌∷◌, ◌++◌, length, Bool, true, false, ◌⊎◌, inl, inr, Some, None, if◌then◌else◌, refl, sym, ap, ◌∙◌, subst, arith}
use Rattle.std.proofs.lemmas.List.Folds.{list_any-append}
use Rattle.std.proofs.lemmas.Bool.{or_left, or_right}
use Rattle.ped_flow.specs.ped_base.specs.Lists.{is_same_text, is_among}
use Rattle.ped_flow.specs.ped_tree.specs.Tree.{Head, StmtTree, StmtTrees, Assign, If, Do, Print, Read, Stop, Comment, no_stmts, more_stmts, ProgramTree}
use Rattle.ped_flow.specs.ped_tree.specs.Accesses.{Access, own_accesses, constant_names}
use Rattle.ped_flow.specs.ped_tree.specs.Nests.{Loop, indices_of}
use Rattle.ped_flow.specs.ped_tree.specs.Numbering.{numbered, all_numbered, at_place, statement_with, statement_count, statements_count}
use Rattle.ped_flow.specs.ped_tree.proofs.Numbers.{length-numbered, length-all_numbered, at_place-front, at_place-back}
use Rattle.ped_graph.specs.ped_refs.specs.References.{Reference, numbered_accesses, statement_references, statements_references, references, outermost_number, outermost}
use Rattle.ped_laws.specs.Acts.Orders.{IsIn}
use Rattle.ped_flow.specs.ped_affine.specs.Assigned.{assigned_in, assigned_in_all}
use Rattle.ped_graph.specs.Dependences.{assigned_by}

pub among_front : (x : List ℕ) (a b : List (List ℕ)) → is_among x a ≡ true → is_among x (a ++ b) ≡ true
among_front x a b h = list_any-append (is_same_text x) a b ∙ or_left (is_among x a) (is_among x b) h

pub among_back : (x : List ℕ) (a b : List (List ℕ)) → is_among x b ≡ true → is_among x (a ++ b) ≡ true
among_back x a b h = list_any-append (is_same_text x) a b ∙ or_right (is_among x a) (is_among x b) h

-- a name that a DO assigns in its body, or by its PRIVATE list
pub among_inner : (x y : List ℕ) (ys : List (List ℕ)) → is_among x ys ≡ true → is_among x (y ∷ ys) ≡ true
among_inner x y ys h = or_right (is_same_text x y) (is_among x ys) h

pub among_first : (x y : List ℕ) (ys : List (List ℕ)) → is_same_text x y ≡ true → is_among x (y ∷ ys) ≡ true
among_first x y ys h = or_left (is_same_text x y) (is_among x ys) h

-- an item of two lists, one behind the other, is one of either
in_either : {X : Type 0} (x : X) (xs ys : List X) → IsIn x (xs ++ ys) → IsIn x xs ⊎ IsIn x ys
in_either x [] ys h = inr h
in_either x (y ∷ xs) ys h = elim h [ inl e ↦ inl (inl e) | inr k ↦ elim (in_either x xs ys k) [ inl i ↦ inl (inr i) | inr i ↦ inr i ] ]

module _ (t : ProgramTree) where
  -- these statements have numbers from n on
  abbrev Stand : ℕ → List StmtTree → Type 0
  Stand n xs = (k : ℕ) (s : StmtTree) → at_place xs k ≡ Some s → statement_with (n + k) t ≡ Some s

  all_stand : Stand 1 (all_numbered t.body)
  all_stand k s e =
      let some : (1 + k == 0) ≡ false = grind arith in
      let place : 1 + k - 1 ≡ k = omega arith in
      ap (λ (b : Bool). if b then None else at_place (all_numbered t.body) (1 + k - 1)) some ∙ (ap (at_place (all_numbered t.body)) place ∙ e)

  front_stands : (n : ℕ) (xs ys : List StmtTree) → Stand n (xs ++ ys) → Stand n xs
  front_stands n xs ys h k s e = h k s (at_place-front xs ys k s e)

  back_stands : (n m : ℕ) (xs ys : List StmtTree) → m ≡ n + length xs → Stand n (xs ++ ys) → Stand m ys
  back_stands n m xs ys is h k s e =
      let place : n + (k + length xs) ≡ m + k = omega (arith, is) in
      subst (λ (i : ℕ). statement_with i t ≡ Some s) place (h (k + length xs) s (at_place-back xs ys (k + length xs) k refl ∙ e))

  first_stands : (n : ℕ) (s : StmtTree) (xs : List StmtTree) → Stand n (s ∷ xs) → statement_with n t ≡ Some s
  first_stands n s xs h =
      let place : n + 0 ≡ n = omega arith in
      subst (λ (i : ℕ). statement_with i t ≡ Some s) place (h 0 s refl)

  -- the DO with this number assigns the name
  abbrev Assigns : ℕ → List ℕ → Type 0
  Assigns o x = is_among x (assigned_by (statement_with o t)) ≡ true

  -- each of these loops assigns only names that the DO with this number assigns
  abbrev pub AssignWithin : ℕ → List Loop → Type 0
  AssignWithin o [] = Unit {0}
  AssignWithin o (l ∷ ls) = ((x : List ℕ) → Assigns l.number x → Assigns o x) × AssignWithin o ls

  one_more : (o : ℕ) (ls : List Loop) (l : Loop) → AssignWithin o ls → ((x : List ℕ) → Assigns l.number x → Assigns o x) → AssignWithin o (ls ++ l ∷ [])
  one_more o [] l h k = (k, tt)
  one_more o (m ∷ ls) l h k = (h.0, one_more o ls l h.1 k)

  -- the outermost of these loops, where there is one, assigns all these names
  abbrev Covers : List Loop → List (List ℕ) → Type 0
  Covers [] names = Unit {0}
  Covers (l ∷ ls) names = (x : List ℕ) → is_among x names ≡ true → Assigns l.number x

  fewer : (nest : List Loop) (names few : List (List ℕ)) → ((x : List ℕ) → is_among x few ≡ true → is_among x names ≡ true) → Covers nest names → Covers nest few
  fewer [] names few k h = tt
  fewer (l ∷ ls) names few k h = λ x i. h x (k x i)

  abbrev IsNest : List Loop → Type 0
  IsNest nest = AssignWithin (outermost_number nest) nest

  deeper : (nest : List Loop) (n : ℕ) (h : Head) (b : StmtTrees) → IsNest nest → Covers nest (assigned_in (Do h b)) → statement_with n t ≡ Some (Do h b)
      → IsNest (nest ++ (record { number = n; head = h }) ∷ []) × Covers (nest ++ (record { number = n; head = h }) ∷ []) (assigned_in_all b)
  deeper [] n h b loops covers is = (
    (λ x e. e, tt),
    λ x i. ap (λ o. is_among x (assigned_by o)) is ∙ among_inner x h.variable (h.private ++ assigned_in_all b) (among_back x h.private (assigned_in_all b) i),
  )
  deeper (m ∷ ms) n h b loops covers is = (
    (loops.0, one_more m.number ms (record { number = n; head = h }) loops.1 (λ x e. covers x (ap (λ o. is_among x (assigned_by o)) (sym is) ∙ e))),
    λ x i. covers x (among_inner x h.variable (h.private ++ assigned_in_all b) (among_back x h.private (assigned_in_all b) i)),
  )

  module _ (c : List (List ℕ)) (r : Reference) where
    own_nest : (n k : ℕ) (nest : List Loop) (accesses : List Access) → IsNest nest → IsIn r (numbered_accesses n k nest accesses) → IsNest r.nest
    own_nest n k nest [] loops h = absurd h
    own_nest n k nest (a ∷ rest) loops h = elim h [
      | inl e ↦ subst (λ (z : Reference). IsNest z.nest) (sym e) loops
      | inr i ↦ own_nest n (suc k) nest rest loops i
    ]

    mutual
      statement_nest : (s : StmtTree) (nest : List Loop) (n : ℕ) → Stand n (numbered s) → IsNest nest → Covers nest (assigned_in s) → IsIn r (statement_references c nest n s) → IsNest r.nest
      statement_nest (Assign left right) nest n stand loops covers h = own_nest n 1 nest (own_accesses c (indices_of nest) (Assign left right)) loops h
      statement_nest (If condition a b) nest n stand loops covers h =
          let inner = back_stands n (n + 1) (If condition a b ∷ []) (all_numbered a ++ all_numbered b) refl stand in
          let first = front_stands (n + 1) (all_numbered a) (all_numbered b) inner in
          let place : n + 1 + statements_count a ≡ n + 1 + length (all_numbered a) = (let long = length-all_numbered a in omega (arith, long)) in
          let second = back_stands (n + 1) (n + 1 + statements_count a) (all_numbered a) (all_numbered b) place inner in
          let own = numbered_accesses n 1 nest (own_accesses c (indices_of nest) (If condition a b)) in
          elim (in_either r (own ++ statements_references c nest (n + 1) a) (statements_references c nest (n + 1 + statements_count a) b) h) [
            | inl i ↦ elim (in_either r own (statements_references c nest (n + 1) a) i) [
              | inl j ↦ own_nest n 1 nest (own_accesses c (indices_of nest) (If condition a b)) loops j
              | inr j ↦ statements_nest a nest (n + 1) first loops (fewer nest (assigned_in_all a ++ assigned_in_all b) (assigned_in_all a) (λ x. among_front x (assigned_in_all a) (assigned_in_all b)) covers) j
            ]
            | inr i ↦ statements_nest b nest (n + 1 + statements_count a) second loops (fewer nest (assigned_in_all a ++ assigned_in_all b) (assigned_in_all b) (λ x. among_back x (assigned_in_all a) (assigned_in_all b)) covers) i
          ]
      statement_nest (Do d b) nest n stand loops covers h =
          let new = deeper nest n d b loops covers (first_stands n (Do d b) (all_numbered b) stand) in
          elim (in_either r (numbered_accesses n 1 nest (own_accesses c (indices_of nest) (Do d b))) (statements_references c (nest ++ (record { number = n; head = d }) ∷ []) (n + 1) b) h) [
            | inl i ↦ own_nest n 1 nest (own_accesses c (indices_of nest) (Do d b)) loops i
            | inr i ↦ statements_nest b (nest ++ (record { number = n; head = d }) ∷ []) (n + 1) (back_stands n (n + 1) (Do d b ∷ []) (all_numbered b) refl stand) new.0 new.1 i
          ]
      statement_nest (Print items) nest n stand loops covers h = own_nest n 1 nest (own_accesses c (indices_of nest) (Print items)) loops h
      statement_nest (Read items) nest n stand loops covers h = own_nest n 1 nest (own_accesses c (indices_of nest) (Read items)) loops h
      statement_nest Stop nest n stand loops covers h = absurd h
      statement_nest (Comment text) nest n stand loops covers h = absurd h

      statements_nest : (ss : StmtTrees) (nest : List Loop) (n : ℕ) → Stand n (all_numbered ss) → IsNest nest → Covers nest (assigned_in_all ss) → IsIn r (statements_references c nest n ss) → IsNest r.nest
      statements_nest no_stmts nest n stand loops covers h = absurd h
      statements_nest (more_stmts s rest) nest n stand loops covers h =
          let place : n + statement_count s ≡ n + length (numbered s) = (let long = length-numbered s in omega (arith, long)) in
          elim (in_either r (statement_references c nest n s) (statements_references c nest (n + statement_count s) rest) h) [
            | inl i ↦ statement_nest s nest n (front_stands n (numbered s) (all_numbered rest) stand) loops (fewer nest (assigned_in s ++ assigned_in_all rest) (assigned_in s) (λ x. among_front x (assigned_in s) (assigned_in_all rest)) covers) i
            | inr i ↦ statements_nest rest nest (n + statement_count s) (back_stands n (n + statement_count s) (numbered s) (all_numbered rest) place stand) loops
                (fewer nest (assigned_in s ++ assigned_in_all rest) (assigned_in_all rest) (λ x. among_back x (assigned_in s) (assigned_in_all rest)) covers) i
          ]

  -- the loops round a reference of the program assign only what the outermost of them assigns
  pub loops_assign : (r : Reference) → IsIn r (references t) → AssignWithin (outermost r) r.nest
  loops_assign r h = statements_nest (constant_names t.decls) r t.body [] 1 all_stand tt tt h
