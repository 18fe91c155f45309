-- What evaluations see of cells whose names don't stand in the expression: nothing. So where sums are kept apart they come to the same.
use Rattle.std.proofs.Common.{◌≡◌, ℕ, suc, ℤ, List, [], ◌∷◌, ◌++◌, Bool, true, false, ◌&&◌, Option, Some, None, Result, Ok, Err, if◌then◌else◌, sym, ◌∙◌}
use Rattle.std.specs.Prelude.{length}
use Rattle.std.specs.List.{flat_map, list_any}
use Rattle.std.proofs.lemmas.Bool.{or_parts}
use Rattle.std.proofs.lemmas.List.Folds.{list_any-append}
use Rattle.ped_tree.specs.Constants.NamedConstants.{value_named}
use Rattle.ped_tree.specs.Tree.{ExprTree, ExprTrees, Int, Var, Element, Neg, Add, Sub, Mul, Div, Pow, Call, no_exprs, more_exprs, CondTree, Rel, Not, And, Or, ItemTree, Value, Text, Head}
use Rattle.ped_tree.specs.NamesIn.{expr_names, exprs_names, cond_names, item_names}
use Rattle.ped_rules.specs.ped_store.specs.Cells as cells
use Rattle.ped_rules.specs.ped_store.specs.Cells.{Cell, In}
use Rattle.ped_rules.specs.ped_store.specs.Stores.{Number, Store, put, lines_in, storable, outside_bounds}
use Rattle.ped_rules.specs.ped_store.specs.Acts.{Touch}
use Rattle.ped_rules.specs.ped_store.specs.DataLines.{Data, begun, Taken, next_value_of}
use Rattle.ped_rules.specs.ped_store.specs.Storage.{is_within}
use Rattle.ped_rules.specs.ped_eval.specs.Scopes.{Names}
use Rattle.ped_rules.specs.ped_eval.specs.Evaluation.{Seen, cell_seen, index_seen, Evaluated, onward, ◌>>>◌, given, read_cell, numbered, number_behind}
use Rattle.ped_rules.specs.ped_eval.specs.Values.{variable_value, name_value, is_rank, element_cell, value, values, truth, target}
use Rattle.ped_rules.specs.ped_eval.specs.Statements.{Stored, assigned, item_text, item_texts, printed_line, into_item, with_taken, taking, taking_from, reading, reading_touches, write_touch}
use Rattle.ped_rules.specs.ped_eval.specs.Loops.{in_bounds, limits}
use Rattle.ped_rules.specs.ped_laws.proofs.RunLaws.SeenCells.{AllSeen, OfResult}

-- each touch is of a cell of this kind
abbrev pub AllTouch : (Cell → Type 0) → List Touch → Type 0
AllTouch P [] = Unit {0}
AllTouch P (t ∷ ts) = P t.cell × AllTouch P ts

module _ (P : Cell → Type 0) where
  pub all_append : (xs ys : List Touch) → AllTouch P xs → AllTouch P ys → AllTouch P (xs ++ ys)
  all_append [] ys h k = k
  all_append (x ∷ xs) ys h k = (h.0, all_append xs ys h.1 k)

  pub numbered_touch : (n : ℕ) (seen : List Seen) → AllSeen P seen → AllTouch P (numbered n seen)
  numbered_touch n [] h = tt
  numbered_touch n (cell_seen c content ∷ more) h = (h.0, numbered_touch (suc n) more h.1)
  numbered_touch n (index_seen c v ∷ more) h = (h.0, numbered_touch n more h.1)

  append_seen : (xs ys : List Seen) → AllSeen P xs → AllSeen P ys → AllSeen P (xs ++ ys)
  append_seen [] ys h k = k
  append_seen (cell_seen c content ∷ xs) ys h k = (h.0, append_seen xs ys h.1 k)
  append_seen (index_seen c v ∷ xs) ys h k = (h.0, append_seen xs ys h.1 k)

  onward_seen : {A B : Type 0} (seen : List Seen) (r : Result A ℕ) (f : A → Evaluated B) → AllSeen P seen → ((x : A) → AllSeen P (f x).seen) → AllSeen P (onward seen r f).seen
  onward_seen seen (Ok x) f h k = append_seen seen (f x).seen h (k x)
  onward_seen seen (Err n) f h k = h

  then_seen : {A B : Type 0} (e : Evaluated A) (f : A → Evaluated B) → AllSeen P e.seen → ((x : A) → AllSeen P (f x).seen) → AllSeen P (e >>> f).seen
  then_seen e f h k = onward_seen e.seen e.result f h k

  one_seen : {A B : Type 0} (f : A → Result B ℕ) (a : Evaluated A) → AllSeen P a.seen → AllSeen P (a >>> λ u. given (f u)).seen
  one_seen f a h = then_seen a (λ u. given (f u)) h (λ u. tt)

  two_seen : {A B C : Type 0} (f : A → B → Result C ℕ) (a : Evaluated A) (b : Evaluated B) → AllSeen P a.seen → AllSeen P b.seen → AllSeen P (a >>> λ u. b >>> λ v. given (f u v)).seen
  two_seen f a b h k = then_seen a (λ u. b >>> λ v. given (f u v)) h (λ u. one_seen (f u) b k)

  -- where cells of names are of this kind, but for some names, which don't stand in it
  module _ (N : List ℕ → Bool) where
    abbrev pub Lacks : List (List ℕ) → Type 0
    Lacks xs = list_any N xs ≡ false

    pub lacks_parts : (xs ys : List (List ℕ)) → Lacks (xs ++ ys) → Lacks xs × Lacks ys
    lacks_parts xs ys h = or_parts (list_any N xs) (list_any N ys) (sym (list_any-append N xs ys) ∙ h)

    pub lacks_first : (x : List ℕ) (xs : List (List ℕ)) → Lacks (x ∷ xs) → (N x ≡ false) × Lacks xs
    lacks_first x xs h = or_parts (N x) (list_any N xs) h

    module _ (g : Names) (scalars : (x : List ℕ) → N x ≡ false → P (g.cell x)) (elements : (x : List ℕ) (js : List ℤ) → N x ≡ false → P (cells.Element x js)) where
      variable_seen : (v : Option ℤ) (x : List ℕ) (s : Store) → N x ≡ false → AllSeen P (variable_value v s (g.cell x)).seen
      variable_seen (Some n) x s h = (scalars x h, tt)
      variable_seen None x s h = (scalars x h, tt)

      name_seen : (v : Option ℤ) (x : List ℕ) (s : Store) → N x ≡ false → AllSeen P (name_value v g x s).seen
      name_seen (Some n) x s h = tt
      name_seen None x s h = variable_seen (g.index x) x s h

      element_seen : (x : List ℕ) (js : List ℤ) (s : Store) (b : Bool) → N x ≡ false → AllSeen P (given (if b then Ok (cells.Element x js) else Err outside_bounds) >>> read_cell s).seen
      element_seen x js s true h = (elements x js h, tt)
      element_seen x js s false h = tt

      mutual
        pub value_seen : (e : ExprTree) (s : Store) → Lacks (expr_names e) → AllSeen P (value g e s).seen
        value_seen (Int n) s h = tt
        value_seen (Var x) s h = name_seen (value_named g.constants x) x s (lacks_first x [] h).0
        value_seen (Element x es) s h =
            let parts = lacks_first x (exprs_names es) h in
            then_seen (values g es s) (λ js. given (element_cell g x js) >>> read_cell s) (values_seen es s parts.1) (λ js. element_seen x js s (is_rank (length js) && is_within (g.bounds x) js) parts.0)
        value_seen (Neg a) s h = one_seen _ (value g a s) (value_seen a s h)
        value_seen (Add a b) s h = let parts = lacks_parts (expr_names a) (expr_names b) h in two_seen _ (value g a s) (value g b s) (value_seen a s parts.0) (value_seen b s parts.1)
        value_seen (Sub a b) s h = let parts = lacks_parts (expr_names a) (expr_names b) h in two_seen _ (value g a s) (value g b s) (value_seen a s parts.0) (value_seen b s parts.1)
        value_seen (Mul a b) s h = let parts = lacks_parts (expr_names a) (expr_names b) h in two_seen _ (value g a s) (value g b s) (value_seen a s parts.0) (value_seen b s parts.1)
        value_seen (Div a b) s h = let parts = lacks_parts (expr_names a) (expr_names b) h in two_seen _ (value g a s) (value g b s) (value_seen a s parts.0) (value_seen b s parts.1)
        value_seen (Pow a b) s h = let parts = lacks_parts (expr_names a) (expr_names b) h in two_seen _ (value g a s) (value g b s) (value_seen a s parts.0) (value_seen b s parts.1)
        value_seen (Call f es) s h = one_seen _ (values g es s) (values_seen es s h)

        pub values_seen : (es : ExprTrees) (s : Store) → Lacks (exprs_names es) → AllSeen P (values g es s).seen
        values_seen no_exprs s h = tt
        values_seen (more_exprs e rest) s h = let parts = lacks_parts (expr_names e) (exprs_names rest) h in two_seen _ (value g e s) (values g rest s) (value_seen e s parts.0) (values_seen rest s parts.1)

      pub truth_seen : (c : CondTree) (s : Store) → Lacks (cond_names c) → AllSeen P (truth g c s).seen
      truth_seen (Rel r a b) s h = let parts = lacks_parts (expr_names a) (expr_names b) h in two_seen _ (value g a s) (value g b s) (value_seen a s parts.0) (value_seen b s parts.1)
      truth_seen (Not a) s h = one_seen _ (truth g a s) (truth_seen a s h)
      truth_seen (And a b) s h = let parts = lacks_parts (cond_names a) (cond_names b) h in two_seen _ (truth g a s) (truth g b s) (truth_seen a s parts.0) (truth_seen b s parts.1)
      truth_seen (Or a b) s h = let parts = lacks_parts (cond_names a) (cond_names b) h in two_seen _ (truth g a s) (truth g b s) (truth_seen a s parts.0) (truth_seen b s parts.1)

      pub target_seen : (e : ExprTree) (s : Store) → Lacks (expr_names e) → AllSeen P (target g e s).seen
      target_seen (Var x) s h = tt
      target_seen (Element x es) s h = one_seen (element_cell g x) (values g es s) (values_seen es s (lacks_first x (exprs_names es) h).1)
      target_seen (Int n) s h = tt
      target_seen (Neg a) s h = tt
      target_seen (Add a b) s h = tt
      target_seen (Sub a b) s h = tt
      target_seen (Mul a b) s h = tt
      target_seen (Div a b) s h = tt
      target_seen (Pow a b) s h = tt
      target_seen (Call f es) s h = tt

      element_is : (x : List ℕ) (js : List ℤ) (b : Bool) → N x ≡ false → OfResult P (if b then Ok (cells.Element x js) else Err outside_bounds)
      element_is x js true h = elements x js h
      element_is x js false h = tt

      element_found : (x : List ℕ) (seen : List Seen) (r : Result (List ℤ) ℕ) → N x ≡ false → OfResult P (onward seen r (λ js. given (element_cell g x js))).result
      element_found x seen (Ok js) h = element_is x js (is_rank (length js) && is_within (g.bounds x) js) h
      element_found x seen (Err n) h = tt

      pub target_is : (e : ExprTree) (s : Store) → Lacks (expr_names e) → OfResult P (target g e s).result
      target_is (Var x) s h = scalars x (lacks_first x [] h).0
      target_is (Element x es) s h = element_found x (values g es s).seen (values g es s).result (lacks_first x (exprs_names es) h).0
      target_is (Int n) s h = tt
      target_is (Neg a) s h = tt
      target_is (Add a b) s h = tt
      target_is (Sub a b) s h = tt
      target_is (Mul a b) s h = tt
      target_is (Div a b) s h = tt
      target_is (Pow a b) s h = tt
      target_is (Call f es) s h = tt

      text_seen : (item : ItemTree) (s : Store) → Lacks (item_names item) → AllSeen P (item_text g item s).seen
      text_seen (Value e) s h = one_seen _ (value g e s) (value_seen e s h)
      text_seen (Text text) s h = tt

      texts_seen : (items : List ItemTree) (s : Store) → Lacks (flat_map item_names items) → AllSeen P (item_texts g items s).seen
      texts_seen [] s h = tt
      texts_seen (item ∷ rest) s h = let parts = lacks_parts (item_names item) (flat_map item_names rest) h in two_seen _ (item_text g item s) (item_texts g rest s) (text_seen item s parts.0) (texts_seen rest s parts.1)

      pub line_seen : (items : List ItemTree) (s : Store) → Lacks (flat_map item_names items) → AllSeen P (printed_line g items s).seen
      line_seen items s h = one_seen _ (item_texts g items s) (texts_seen items s h)

      pub limits_seen : (h : Head) (s : Store) → Lacks (expr_names h.first) → Lacks (expr_names h.last) → AllSeen P (limits g h s).seen
      limits_seen h s a b =
          then_seen (value g h.first s) (λ u. given (in_bounds u) >>> λ m. value g h.last s >>> λ v. given (in_bounds v) >>> λ n. given (Ok (record { first = m; last = n }))) (value_seen h.first s a) (λ u.
          then_seen (given (in_bounds u)) (λ m. value g h.last s >>> λ v. given (in_bounds v) >>> λ n. given (Ok (record { first = m; last = n }))) tt (λ m.
          then_seen (value g h.last s) (λ v. given (in_bounds v) >>> λ n. given (Ok (record { first = m; last = n }))) (value_seen h.last s b) (λ v.
          one_seen (λ n. Ok (record { first = m; last = n })) (given (in_bounds v)) tt)))

      pub assigned_seen : (left right : ExprTree) (s : Store) → Lacks (expr_names left) → Lacks (expr_names right) → AllSeen P (assigned g left right s).seen
      assigned_seen left right s a b =
          then_seen (value g right s) (λ v. target g left s >>> λ c. given (storable v) >>> λ n. given (Ok (record { cell = c; number = n }))) (value_seen right s b) (λ v.
          then_seen (target g left s) (λ c. given (storable v) >>> λ n. given (Ok (record { cell = c; number = n }))) (target_seen left s a) (λ c.
          one_seen (λ n. Ok (record { cell = c; number = n })) (given (storable v)) tt))

      stored_number : (c : Cell) (r : Result ℤ ℕ) → P c → OfResult (λ (w : Stored). P w.cell) (given r >>> λ n. given (Ok (record { cell = c; number = n }))).result
      stored_number c (Ok n) h = h
      stored_number c (Err n) h = tt

      stored_cell : (seen : List Seen) (c : Result Cell ℕ) (v : ℤ) → OfResult P c → OfResult (λ (w : Stored). P w.cell) (onward seen c (λ c. given (storable v) >>> λ n. given (Ok (record { cell = c; number = n })))).result
      stored_cell seen (Ok c) v h = stored_number c (storable v) h
      stored_cell seen (Err n) v h = tt

      stored_value : (left : ExprTree) (s : Store) (seen : List Seen) (r : Result ℤ ℕ) → Lacks (expr_names left)
          → OfResult (λ (w : Stored). P w.cell) (onward seen r (λ v. target g left s >>> λ c. given (storable v) >>> λ n. given (Ok (record { cell = c; number = n })))).result
      stored_value left s seen (Ok v) h = stored_cell (target g left s).seen (target g left s).result v (target_is left s h)
      stored_value left s seen (Err n) h = tt

      pub assigned_is : (left right : ExprTree) (s : Store) → Lacks (expr_names left) → OfResult (λ (w : Stored). P w.cell) (assigned g left right s).result
      assigned_is left right s h = stored_value left s (value g right s).seen (value g right s).result h

      -- the items of a READ
      module _ (input : P In) where
        item_touch : (rest : List ExprTree) → ((n : ℕ) (d : Data) (s : Store) → AllTouch P (taking g rest n d s).touches) → (n : ℕ) (left : Data) (v : ℤ) (s : Store) (seen : List Seen) (r : Result Cell ℕ) → AllSeen P seen → OfResult P r
            → AllTouch P (into_item n left v seen r (λ m c. taking g rest m left (put c (Number v) s))).touches
        item_touch rest more n left v s seen (Err fault) a o = numbered_touch n seen a
        item_touch rest more n left v s seen (Ok c) a o =
            all_append (numbered n seen ++ write_touch c (Number v) (number_behind n seen) ∷ []) (taking g rest (suc (number_behind n seen)) left (put c (Number v) s)).touches
            (all_append (numbered n seen) (write_touch c (Number v) (number_behind n seen) ∷ []) (numbered_touch n seen a) (o, tt)) (more (suc (number_behind n seen)) left (put c (Number v) s))

        taken_touch : (rest : List ExprTree) → ((n : ℕ) (d : Data) (s : Store) → AllTouch P (taking g rest n d s).touches) → (item : ExprTree) (n : ℕ) (d : Data) (s : Store) (t : Result Taken ℕ) → Lacks (expr_names item)
            → AllTouch P (with_taken d t (λ v left. into_item n left v (target g item s).seen (target g item s).result λ m c. taking g rest m left (put c (Number v) s))).touches
        taken_touch rest more item n d s (Err fault) h = tt
        taken_touch rest more item n d s (Ok t) h = item_touch rest more n t.behind t.value s (target g item s).seen (target g item s).result (target_seen item s h) (target_is item s h)

        taking_touch : (items : List ExprTree) (n : ℕ) (d : Data) (s : Store) → Lacks (flat_map expr_names items) → AllTouch P (taking g items n d s).touches
        taking_touch [] n d s h = tt
        taking_touch (item ∷ rest) n d s h =
            let parts = lacks_parts (expr_names item) (flat_map expr_names rest) h in
            taken_touch rest (λ m e u. taking_touch rest m e u parts.1) item n d s (next_value_of d) parts.0

        from_touch : (items : List ExprTree) (b : Result Data ℕ) (s : Store) → Lacks (flat_map expr_names items) → AllTouch P (taking_from g items b s).touches
        from_touch items (Ok d) s h = taking_touch items 2 d s h
        from_touch items (Err fault) s h = tt

        pub reading_touch : (items : List ExprTree) (s : Store) → Lacks (flat_map expr_names items) → AllTouch P (reading_touches (reading g items s) s)
        reading_touch items s h = (input, (input, from_touch items (begun (lines_in (s In))) s h))
