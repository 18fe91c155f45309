-- The first read of a scalar among events, from what the events do to it.
use Rattle.std.proofs.Common.{◌≡◌, ℕ, ◌+◌, ◌<◌, Bool, true, false, ◌&&◌, List, [], ◌∷◌, ◌++◌, map, length, drop, get_or, Option, Some, None, refl, sym, ap, ◌∙◌, rules, if◌then◌else◌}
use Rattle.std.specs.List.{flat_map}
use Rattle.ped_base.specs.Lists.{is_same_text, is_among}
use Rattle.ped_tree.specs.Tree as plain
use Rattle.ped_tree.specs.Tree.{ExprTree, Int, Var, Element, Neg, Add, Sub, Mul, Div, Pow, Call, StmtTree, StmtTrees}
use Rattle.std.specs.Global.{Vec}
use Rattle.ped_tree.specs.Views.{expr_tree, item_tree, cond_tree, stmt_tree, stmt_trees}
use Rattle.ped_tree.specs.Numbering.{statement_count, statements_count}
use Rattle.ped_tree.specs.declared.conditions.Cond.{Cond}
use Rattle.ped_tree.specs.declared.statements.PrintItem.{PrintItem}
use Rattle.ped_tree.specs.declared.statements.Do.{Do as DoLoop}
use Rattle.ped_tree.specs.Views.{head_of}
use Rattle.ped_tree.specs.declared.expressions.Expr.{Expr}
use Rattle.ped_tree.specs.declared.statements.Stmt.{Stmt}
use Rattle.ped_tree.specs.declared.statements.Stmt as variant
use Rattle.ped_flow.specs.Events.{Event, reads, assigns, event, reads_of, scalars_in, all_scalars_in, scalars_in_cond, scalars_in_item, left_events}
use Rattle.ped_flow.specs.Summaries.{least_of, when, passing, of_manner, summary_events}
use Rattle.ped_flow.specs.Kept.{reader_in, first_reader, unless, first_outside, all_first_outside}
use Rattle.ped_flow.specs.declared.summaries.Summary.{Summary}
use Rattle.ped_flow.proofs.SumLaws.{least-assoc}
use Rattle.ped_flow.proofs.ScalarSteps.{rest_is}

pub first_reader-append : (x : List ℕ) (p q : List Event) → first_reader x (p ++ q) ≡ least_of (first_reader x p) (first_reader x q)
first_reader-append x [] q = refl
first_reader-append x (e ∷ p) q = ap (least_of (reader_in x e)) (first_reader-append x p q) ∙ sym (least-assoc (reader_in x e) (first_reader x p) (first_reader x q))

one_read : (r : Bool) (n : ℕ) (a : Option ℕ) → least_of ((if r then of_manner reads n else passing).first) (when (if r then of_manner reads n else passing).keeps a) ≡ least_of (if r && true then Some n else None) a
one_read true n a = refl
one_read false n a = refl

-- nothing is overwritten before a read among reads
pub reads-first : (x : List ℕ) (n : ℕ) (names : List (List ℕ)) → (summary_events x (reads_of n names)).first ≡ first_reader x (reads_of n names)
reads-first x n [] = refl
reads-first x n (y ∷ ys) = one_read (is_same_text x y) n (summary_events x (reads_of n ys)).first ∙ ap (least_of (if is_same_text x y && true then Some n else None)) (reads-first x n ys)

one_assigned : (r : Bool) (n : ℕ) → least_of ((if r then of_manner assigns n else passing).first) (when (if r then of_manner assigns n else passing).keeps None) ≡ least_of (if r && false then Some n else None) None
one_assigned true n = refl
one_assigned false n = refl

assigned-first : (x y : List ℕ) (c : Bool) (n : ℕ) → (summary_events x (map (event n assigns) (if c then [] else y ∷ []))).first ≡ first_reader x (map (event n assigns) (if c then [] else y ∷ []))
assigned-first x y true n = refl
assigned-first x y false n = one_assigned (is_same_text x y) n

-- a left side reads before it assigns
pub left-first : (x : List ℕ) (cs : List (List ℕ)) (n : ℕ) (e : ExprTree) → (summary_events x (left_events cs n e)).first ≡ first_reader x (left_events cs n e)
left-first x cs n (Var y) = assigned-first x y (is_among y cs) n
left-first x cs n (Element y subscripts) = reads-first x n (all_scalars_in cs subscripts)
left-first x cs n (Int k) = refl
left-first x cs n (Neg a) = refl
left-first x cs n (Add a b) = refl
left-first x cs n (Sub a b) = refl
left-first x cs n (Mul a b) = refl
left-first x cs n (Div a b) = refl
left-first x cs n (Pow a b) = refl
left-first x cs n (Call f arguments) = refl

entry-step : (x y : List ℕ) (n : ℕ) (names : List (List ℕ)) → (summary_events x (reads_of n names ++ event n assigns y ∷ [])).first ≡ first_reader x (reads_of n names ++ event n assigns y ∷ [])
entry-step x y n [] = one_assigned (is_same_text x y) n
entry-step x y n (z ∷ zs) =
    one_read (is_same_text x z) n (summary_events x (reads_of n zs ++ event n assigns y ∷ [])).first
    ∙ ap (least_of (if is_same_text x z && true then Some n else None)) (entry-step x y n zs)

-- the bounds of a DO are read before its variable is assigned
pub entry-first : (x y : List ℕ) (n : ℕ) (names : List (List ℕ)) → (summary_events x (reads_of n names ++ event n assigns y ∷ [])).first ≡ first_reader x (reads_of n names ++ event n assigns y ∷ [])
entry-first = entry-step

pub ruleset reading = (reads-first, left-first, entry-first, first_reader-append)

module _ (cs : List (List ℕ)) (x : List ℕ) (body : List Stmt) (i : ℕ) (s : Stmt) (within : i < length body) (is : s ≡ get_or body i s) (n m : ℕ) (k : m ≡ n + statement_count (stmt_tree s)) where
  pub outside_next : (before item after whole : Option ℕ) → least_of before (all_first_outside cs x (stmt_trees (drop i body)) n) ≡ whole → item ≡ first_outside cs x (stmt_tree s) n → after ≡ least_of before item
      → least_of after (all_first_outside cs x (stmt_trees (drop (i + 1) body)) m) ≡ whole
  outside_next before item after whole inv h e =
      let B = all_first_outside cs x (stmt_trees (drop (i + 1) body)) m in
      ap (λ (z : Option ℕ). least_of z B) (e ∙ ap (least_of before) h)
      ∙ least-assoc before (first_outside cs x (stmt_tree s) n) B
      ∙ ap (least_of before)
      ((λ j. least_of (first_outside cs x (stmt_tree s) n) (all_first_outside cs x (stmt_trees (drop (i + 1) body)) (k j)))
      ∙ ap (λ (ss : StmtTrees). all_first_outside cs x ss n) (sym (ap stmt_trees (rest_is body i s within is))))
      ∙ inv

-- one more part: its first read, and that of the others
pub next_least : (before after whole item rest others : Option ℕ) → least_of before rest ≡ whole → rest ≡ least_of item others → after ≡ least_of before item → least_of after others ≡ whole
next_least before after whole item rest others inv r e = ap (λ (z : Option ℕ). least_of z others) e ∙ least-assoc before item others ∙ ap (least_of before) (sym r) ∙ inv

stmt_tree-Assign : (left right : Expr) → stmt_tree (variant.Assign left right) ≡ plain.Assign (expr_tree left) (expr_tree right)
stmt_tree-Assign left right = search (rules, variant.the_lemmas)

stmt_tree-Print : (v : Vec PrintItem) → stmt_tree (variant.Print v) ≡ plain.Print (map item_tree v.items)
stmt_tree-Print v = search (rules, variant.the_lemmas)

stmt_tree-If : (c : Cond) (a b : Vec Stmt) → stmt_tree (variant.If c a b) ≡ plain.If (cond_tree c) (stmt_trees a.items) (stmt_trees b.items)
stmt_tree-If c a b = search (rules, variant.the_lemmas)

stmt_tree-Do : (d : DoLoop) → stmt_tree (variant.Do d) ≡ plain.Do (head_of d) (stmt_trees d.body.items)
stmt_tree-Do d = search (rules, variant.the_lemmas)

module _ (cs : List (List ℕ)) (x : List ℕ) (s : Stmt) (n : ℕ) where
  pub assign_first : (left right : Expr) (e t : Summary) (r : Option ℕ) → s ≡ variant.Assign left right → e ≡ summary_events x (reads_of n (scalars_in cs (expr_tree right)))
      → t ≡ summary_events x (left_events cs n (expr_tree left)) → r ≡ least_of e.first t.first → r ≡ first_outside cs x (stmt_tree s) n
  assign_first left right e t r is h k f =
      f
      ∙ (λ i. least_of ((ap (λ (m : Summary). m.first) h ∙ reads-first x n (scalars_in cs (expr_tree right))) i) ((ap (λ (m : Summary). m.first) k ∙ left-first x cs n (expr_tree left)) i))
      ∙ sym (first_reader-append x (reads_of n (scalars_in cs (expr_tree right))) (left_events cs n (expr_tree left)))
      ∙ ap (λ (tree : StmtTree). first_outside cs x tree n) (sym (ap stmt_tree is ∙ stmt_tree-Assign left right))

  pub print_first : (v : Vec PrintItem) (items : List PrintItem) (m : Summary) → s ≡ variant.Print v → items ≡ v.items → m ≡ summary_events x (reads_of n (flat_map (scalars_in_item cs) (map item_tree items)))
      → m.first ≡ first_outside cs x (stmt_tree s) n
  print_first v items m is e h =
      ap (λ (z : Summary). z.first) h ∙ reads-first x n (flat_map (scalars_in_item cs) (map item_tree items))
      ∙ ap (λ (is : List PrintItem). first_reader x (reads_of n (flat_map (scalars_in_item cs) (map item_tree is)))) e
      ∙ ap (λ (tree : StmtTree). first_outside cs x tree n) (sym (ap stmt_tree is ∙ stmt_tree-Print v))

  pub if_first : (c : Cond) (a b : Vec Stmt) (p q : List Stmt) (m : Summary) (f g u r : Option ℕ) (k : ℕ) → s ≡ variant.If c a b → p ≡ a.items → q ≡ b.items → m ≡ summary_events x (reads_of n (scalars_in_cond cs (cond_tree c)))
      → f ≡ all_first_outside cs x (stmt_trees p) (n + 1) → k ≡ n + 1 + statements_count (stmt_trees p) → g ≡ all_first_outside cs x (stmt_trees q) k → u ≡ least_of f g → r ≡ least_of m.first u → r ≡ first_outside cs x (stmt_tree s) n
  if_first c a b p q m f g u r k is ep eq em ef ek eg eu er =
      er
      ∙ (λ i. least_of ((ap (λ (z : Summary). z.first) em ∙ reads-first x n (scalars_in_cond cs (cond_tree c))) i) (eu i))
      ∙ (λ i. least_of (first_reader x (reads_of n (scalars_in_cond cs (cond_tree c)))) (least_of (ef i) (eg i)))
      ∙ (λ i. least_of (first_reader x (reads_of n (scalars_in_cond cs (cond_tree c)))) (least_of (all_first_outside cs x (stmt_trees p) (n + 1)) (all_first_outside cs x (stmt_trees q) (ek i))))
      ∙ (λ i. least_of (first_reader x (reads_of n (scalars_in_cond cs (cond_tree c)))) (least_of (all_first_outside cs x (stmt_trees (ep i)) (n + 1)) (all_first_outside cs x (stmt_trees (eq i)) (n + 1 + statements_count (stmt_trees (ep i))))))
      ∙ ap (λ (tree : StmtTree). first_outside cs x tree n) (sym (ap stmt_tree is ∙ stmt_tree-If c a b))

  pub do_first : (d : DoLoop) (p : List Stmt) (m : Summary) (f u r : Option ℕ) (same : Bool) → s ≡ variant.Do d → p ≡ d.body.items
      → m ≡ summary_events x (reads_of n (scalars_in cs (expr_tree d.first) ++ scalars_in cs (expr_tree d.last)) ++ event n assigns d.variable ∷ [])
      → f ≡ all_first_outside cs x (stmt_trees p) (n + 1) → same ≡ is_same_text x d.variable → u ≡ unless same f → r ≡ least_of m.first u → r ≡ first_outside cs x (stmt_tree s) n
  do_first d p m f u r same is ep em ef es eu er =
      er
      ∙ (λ i. least_of ((ap (λ (z : Summary). z.first) em ∙ entry-first x d.variable n (scalars_in cs (expr_tree d.first) ++ scalars_in cs (expr_tree d.last))) i) (eu i))
      ∙ (λ i. least_of (first_reader x (reads_of n (scalars_in cs (expr_tree d.first) ++ scalars_in cs (expr_tree d.last)) ++ event n assigns d.variable ∷ [])) (unless (es i) ((ef ∙ ap (λ (b : List Stmt). all_first_outside cs x (stmt_trees b) (n + 1)) ep) i)))
      ∙ ap (λ (tree : StmtTree). first_outside cs x tree n) (sym (ap stmt_tree is ∙ stmt_tree-Do d))
