-- Each list of dependences has rows, and each program has a pane of calls.
use Rattle.std.proofs.Common.{◌≡◌, ℕ, List, [], ◌∷◌, ◌++◌, Bool, true, false, Option, refl, sym, ap, ◌∙◌, append-nil, append_assoc, subst}
use Rattle.std.specs.Ordering.{match_ordering, ordering_reverse}
use Rattle.std.specs.declared.cmp.Ordering.{Ordering}
use Rattle.std.specs.declared.cmp.Ordering.TheVariants.{Less, Equal, Greater}
use Rattle.std.specs.BTreeSet.{insert_key}
use Rattle.std.specs.List.{AllByRecursion}
use Rattle.std.specs.List.Sorted.{IsStrictlySortedBy}
use Rattle.ped_tree.specs.Tree.{ProgramTree}
use Rattle.ped_edges.specs.Edges.{Edge}
use Rattle.ped_rules.specs.ped_graph.specs.Dependences.{AreEdges}
use Rattle.ped_inline.specs.Folding.{CallBlock, blocks, is_folded, Row, row_of, row_cmp, AreRows}
use Rattle.ped_inline.specs.CallsPane.{calls, calls_pane, IsCallsPane}
use Rattle.ped_inline.specs.RowOrders.{row_cmp_total}
use Rattle.ped_inline.proofs.InsertedRows.{one_added, one_passed, no_rows}

-- what is above a row is above what is below it
all_above : (k x : Row) (xs : List Row) → row_cmp k x ≡ Less → AllByRecursion (λ y. row_cmp x y ≡ Less) xs → AllByRecursion (λ y. row_cmp k y ≡ Less) xs
all_above k x [] h all = tt
all_above k x (y ∷ ys) h all = (row_cmp_total.trans k x y h all.0, all_above k x ys h all.1)

inserted_above : (x k : Row) (xs : List Row) → row_cmp x k ≡ Less → AllByRecursion (λ y. row_cmp x y ≡ Less) xs → AllByRecursion (λ y. row_cmp x y ≡ Less) (insert_key row_cmp xs k)
inserted_above x k [] h all = (h, tt)
inserted_above x k (y ∷ ys) h all = go (row_cmp k y) (inserted_above x k ys h all.1)
  where
    go : (o : Ordering) → AllByRecursion (λ y. row_cmp x y ≡ Less) (insert_key row_cmp ys k) → AllByRecursion (λ y. row_cmp x y ≡ Less) (match_ordering o (k ∷ y ∷ ys) (y ∷ ys) (y ∷ insert_key row_cmp ys k))
    go Less more = (h, all)
    go Equal more = all
    go Greater more = (all.0, more)

-- a row that comes to its place leaves rows in their order
inserted_sorted : (k : Row) (xs : List Row) → IsStrictlySortedBy row_cmp xs → IsStrictlySortedBy row_cmp (insert_key row_cmp xs k)
unfolding IsStrictlySortedBy
inserted_sorted k [] h = (tt, tt)
inserted_sorted k (x ∷ xs) h = go (row_cmp k x) refl (inserted_sorted k xs h.1)
  where
    below : row_cmp k x ≡ Greater → row_cmp x k ≡ Less
    below e = row_cmp_total.antisymm x k ∙ ap ordering_reverse e

    go : (o : Ordering) → row_cmp k x ≡ o → IsStrictlySortedBy row_cmp (insert_key row_cmp xs k) → IsStrictlySortedBy row_cmp (match_ordering o (k ∷ x ∷ xs) (x ∷ xs) (x ∷ insert_key row_cmp xs k))
    go Less e more = ((e, all_above k x xs e h.0), h)
    go Equal e more = h
    go Greater e more = (inserted_above x k xs (below e) h.0, more)

module _ (bs : List (Option CallBlock)) where
  one_more : (done : List Edge) (e : Edge) (rows : List Row) → AreRows bs done rows → (more : List Row) × AreRows bs (done ++ e ∷ []) more
  one_more done e rows are = go (is_folded bs e) refl
    where
      go : (b : Bool) → is_folded bs e ≡ b → (more : List Row) × AreRows bs (done ++ e ∷ []) more
      go true h = (insert_key row_cmp rows (row_of bs e), one_added bs e done rows h are (inserted_sorted (row_of bs e) rows are.ordered))
      go false h = (rows, one_passed bs e done rows h are)

  all_more : (done es : List Edge) (rows : List Row) → AreRows bs done rows → (more : List Row) × AreRows bs (done ++ es) more
  all_more done [] rows are = (rows, subst (λ (xs : List Edge). AreRows bs xs rows) (sym (append-nil done)) are)
  all_more done (e ∷ es) rows are =
      let first = one_more done e rows are in
      let rest = all_more (done ++ e ∷ []) es first.0 first.1 in
      (rest.0, subst (λ (xs : List Edge). AreRows bs xs rest.0) (append_assoc done (e ∷ []) es) rest.1)

  pub some_rows : (es : List Edge) → (rows : List Row) × AreRows bs es rows
  some_rows es = all_more [] es [] (no_rows bs)

-- a program that has dependences, as each one has, has a pane of calls
pub some_calls_pane : (t : ProgramTree) (edges : List Edge) → AreEdges t edges → (pane : List ℕ) × IsCallsPane t pane
some_calls_pane t edges are = let r = some_rows (blocks t) edges in (calls_pane (calls t) r.0, (edges, are, r.0, r.1, refl))
