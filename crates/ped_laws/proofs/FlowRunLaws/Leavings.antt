-- What the exit of a DO does to a scalar of which it leaves the cell: its variable, or a name of which its iterations have copies.
use Rattle.std.proofs.Common.{map, ◌≡◌, ℕ, suc, ℤ, List, [], ◌∷◌, ◌++◌, Bool, true, false, ◌&&◌, ◌||◌, if◌then◌else◌, refl, sym, ap, ◌∙◌, inl, inr}
use Rattle.std.proofs.lemmas.List.Folds.{list_any-append}
use Rattle.std.proofs.lemmas.Bool.{or_right}
use Rattle.ped_flow.specs.ped_base.specs.Lists.{is_same_text, is_among}
use Rattle.ped_flow.specs.ped_tree.specs.Tree.{Head, StmtTrees}
use Rattle.ped_flow.specs.ped_tree.specs.NamesIn.{all_loop_variables}
use Rattle.ped_eval.specs.ped_store.specs.Cells.{Cell, same_cell}
use Rattle.ped_eval.specs.ped_store.specs.Stores.{Undefined, Number}
use Rattle.ped_eval.specs.ped_store.specs.Acts.{Touch}
use Rattle.ped_laws.specs.Acts.Sets.{written_by, needed_by}
use Rattle.ped_eval.specs.Scopes.{Scope, cell_of}
use Rattle.ped_eval.specs.Loops.{Entered, inner_variables, undefined_by, undefined_all, exit_touches, left_in_variable}
use Rattle.ped_flow.specs.Events as events
use Rattle.ped_flow.specs.Events.{event, copied, has_value, overwrites}
use Rattle.ped_flow.proofs.Truths.{untrue, or_split, or_none}
use Rattle.ped_laws.specs.FlowRuns.Covering.{is_number, holds_number}
use Rattle.ped_laws.proofs.FlowRunLaws.Coverings.{written_parts, holds_append, needed_parts, not_so, kept_number}
use Rattle.ped_laws.proofs.FlowRunLaws.Reading.{reads_cell, needed_read, exit_unread}
use Rattle.ped_laws.proofs.FlowRunLaws.Names.{cleared, inner_among, same_cells}

-- what isn't read isn't needed
pub unread_unneeded : (c : Cell) (ts : List Touch) → reads_cell c ts ≡ false → needed_by ts c ≡ false
unread_unneeded c ts h = not_so (needed_by ts c) (λ n. let z : false ≡ true = sym h ∙ needed_read c ts n in untrue z)

-- names that become undefined
undefined_written : (S : Scope) (x : List ℕ) (n : ℕ) (ys : List (List ℕ)) → written_by (undefined_by S n ys) (cell_of S x) ≡ is_among x ys
undefined_written S x n [] = refl
undefined_written S x n (y ∷ ys) = λ i. same_cells S y x i || undefined_written S x (suc n) ys i

undefined_all_written : (S : Scope) (x : List ℕ) (ys : List (List ℕ)) → written_by (undefined_all S ys) (cell_of S x) ≡ is_among x ys
undefined_all_written S x [] = refl
undefined_all_written S x (y ∷ ys) = λ i. same_cells S y x i || undefined_all_written S x ys i

-- what the exit writes
pub exit_written : (S : Scope) (x : List ℕ) (e : Entered) → written_by (exit_touches e S) (cell_of S x) ≡ (is_same_text x e.head.variable || (is_among x e.head.private || is_among x e.inner))
exit_written S x e =
    ap (λ (b : Bool). same_cell (cell_of S e.head.variable) (cell_of S x) || b) (written_parts (undefined_by S e.behind_bounds e.head.private) (undefined_all S e.inner) (cell_of S x))
    ∙ (λ i. same_cells S e.head.variable x i || (undefined_written S x e.behind_bounds e.head.private i || undefined_all_written S x e.inner i))

-- names that a path clears
pub cleared_lost : (x : List ℕ) (n : ℕ) (b : Bool) (ys : List (List ℕ)) → is_among x ys ≡ true → has_value x b (map (event n events.clears) ys) ≡ false
cleared_lost x n b [] h = untrue h
cleared_lost x n b (y ∷ ys) h = by (is_same_text x y) (is_among x ys) h (λ k. cleared_lost x n b ys k) (λ v. kept v ys)
  where
    kept : (v : Bool) (zs : List (List ℕ)) → v ≡ false → has_value x v (map (event n events.clears) zs) ≡ false
    kept v [] k = k
    kept v (z ∷ zs) k = next (is_same_text x z) (kept false zs refl) (kept v zs k)
      where
        next : (same : Bool) → has_value x false (map (event n events.clears) zs) ≡ false → has_value x v (map (event n events.clears) zs) ≡ false → has_value x (if same && true then false else v) (map (event n events.clears) zs) ≡ false
        next true p q = p
        next false p q = q

    by : (same among : Bool) → (same || among) ≡ true → (among ≡ true → has_value x b (map (event n events.clears) ys) ≡ false) → ((v : Bool) → v ≡ false → has_value x v (map (event n events.clears) ys) ≡ false)
        → has_value x (if same && true then false else b) (map (event n events.clears) ys) ≡ false
    by true among h k l = l false refl
    by false among h k l = k h

pub cleared_elsewhere : (x : List ℕ) (n : ℕ) (ys : List (List ℕ)) → is_among x ys ≡ false → overwrites x (map (event n events.clears) ys) ≡ false
cleared_elsewhere x n [] h = refl
cleared_elsewhere x n (y ∷ ys) h =
    let parts = or_none (is_same_text x y) (is_among x ys) h in
    (λ i. (parts.0 i && true) || cleared_elsewhere x n ys parts.1 i)

-- touches behind which a scalar that a DO leaves is as its exit leaves it
pub record IsLeft (x : List ℕ) (c : Cell) (h : Head) (b : StmtTrees) (ts : List Touch) : Type 0 where
  pub unneeded : needed_by ts c ≡ false
  pub written : written_by ts c ≡ true
  pub valued : is_among x (cleared h b) ≡ false → (before : Bool) → holds_number c before ts ≡ true

-- with touches before them that don't need the cell
pub left_behind : (x : List ℕ) (c : Cell) (h : Head) (b : StmtTrees) (xs ys : List Touch) → needed_by xs c ≡ false → IsLeft x c h b ys → IsLeft x c h b (xs ++ ys)
left_behind x c h b xs ys u l = record {
  unneeded = not_so (needed_by (xs ++ ys) c) (λ n. elim (needed_parts xs ys c n) [ inl k ↦ (let z : false ≡ true = sym u ∙ k in untrue z) | inr k ↦ (let z : false ≡ true = sym l.unneeded ∙ k.1 in untrue z) ]);
  written = written_parts xs ys c ∙ or_right (written_by xs c) (written_by ys c) l.written;
  valued = λ k before. holds_append c before xs ys ∙ l.valued k (holds_number c before xs);
}

module _ (S : Scope) (x : List ℕ) (h : Head) (b : StmtTrees) (e : Entered) (head : e.head ≡ h) (inner : e.inner ≡ inner_variables h.parallel b) where
  names_by : (parallel : Bool) → (is_among x h.private || is_among x (inner_variables parallel b)) ≡ is_among x (h.private ++ (if parallel then all_loop_variables b else []))
  names_by true = ap (λ (z : Bool). is_among x h.private || z) (inner_among x b) ∙ sym (list_any-append (is_same_text x) h.private (all_loop_variables b))
  names_by false = sym (list_any-append (is_same_text x) h.private [])

  -- what the exit writes, by what a path clears
  pub exit_writes : written_by (exit_touches e S) (cell_of S x) ≡ (is_same_text x h.variable || is_among x (copied h b))
  exit_writes =
      exit_written S x e ∙ ((λ i. is_same_text x (head i).variable || (is_among x (head i).private || is_among x (inner i)))
      ∙ ap (λ (z : Bool). is_same_text x h.variable || z) (names_by h.parallel))

  -- a scalar that isn't cleared is the variable of a DO that isn't parallel
  number_left : (parallel : Bool) → (is_same_text x h.variable || is_among x (h.private ++ (if parallel then all_loop_variables b else []))) ≡ true
      → is_among x ((if parallel then h.variable ∷ [] else []) ++ (h.private ++ (if parallel then all_loop_variables b else []))) ≡ false
      → (parallel ≡ false) × (is_same_text x h.variable ≡ true) × ((is_among x h.private || is_among x (inner_variables parallel b)) ≡ false)
  number_left true k n = let z : false ≡ true = sym n ∙ k in untrue z
  number_left false k n = elim (or_split (is_same_text x h.variable) (is_among x (h.private ++ [])) k) [
    | inl j ↦ (refl, j, sym (list_any-append (is_same_text x) h.private []) ∙ n)
    | inr j ↦ (let z : false ≡ true = sym n ∙ j in untrue z)
  ]

  content_left : (parallel : Bool) (n : ℤ) → parallel ≡ false → is_number (if parallel then Undefined else Number n) ≡ true
  content_left true n k = untrue (sym k)
  content_left false n k = refl

  -- the exit leaves it so
  pub exit_leaves : (is_same_text x h.variable || is_among x (copied h b)) ≡ true → IsLeft x (cell_of S x) h b (exit_touches e S)
  exit_leaves k = record {
    unneeded = unread_unneeded (cell_of S x) (exit_touches e S) (exit_unread (cell_of S x) e S);
    written = exit_writes ∙ k;
    valued = valued;
  }
    where
      valued : is_among x (cleared h b) ≡ false → (before : Bool) → holds_number (cell_of S x) before (exit_touches e S) ≡ true
      valued n before =
          let l = number_left h.parallel k n in
          let same : same_cell (cell_of S e.head.variable) (cell_of S x) ≡ true = same_cells S e.head.variable x ∙ (ap (λ (z : Head). is_same_text x z.variable) head ∙ l.1) in
          let rest : written_by (undefined_by S e.behind_bounds e.head.private ++ undefined_all S e.inner) (cell_of S x) ≡ false =
          written_parts (undefined_by S e.behind_bounds e.head.private) (undefined_all S e.inner) (cell_of S x)
          ∙ ((λ i. undefined_written S x e.behind_bounds e.head.private i || undefined_all_written S x e.inner i) ∙ ((λ i. is_among x (head i).private || is_among x (inner i)) ∙ l.2)) in
          ap (λ (z : Bool). holds_number (cell_of S x) (if z then is_number (left_in_variable e) else before) (undefined_by S e.behind_bounds e.head.private ++ undefined_all S e.inner)) same
          ∙ (kept_number x (cell_of S x) (undefined_by S e.behind_bounds e.head.private ++ undefined_all S e.inner) (is_number (left_in_variable e)) rest
          ∙ content_left e.head.parallel _ (ap (λ (z : Head). z.parallel) head ∙ l.0))
