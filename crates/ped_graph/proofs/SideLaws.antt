-- The view of two references by what is computed once of each of them.
use Rattle.std.proofs.Common.{◌≡◌, ℕ, suc, ◌-◌, ◌≤◌, ℤ, List, [], ◌∷◌, ◌++◌, length, map, take, drop, Bool, true, false, cond, Option, Some, None, refl, sym, ap, ◌∙◌, arith}
use Rattle.std.specs.Prelude.{filter, not, ◌&&◌, ◌||◌, if◌then◌else◌, is_some, option_map}
use Rattle.std.specs.List.{AllByRecursion, list_all}
use Rattle.std.specs.Ordering.{int_eq}
use Rattle.std.specs.Cmp.Lexicographic.{pointwise}
use Rattle.std.specs.Bool.{Decides, beq}
use Rattle.std.specs.Cmp.{booleans_Decides}
use Rattle.std.proofs.lemmas.Bool.{eq-eqb}
use Rattle.std.proofs.lemmas.Bool.Decides.{Decides-int_eq, Decides-and, Decides-like}
use Rattle.std.proofs.lemmas.List.{length-drop, drop_all, take_all, take-append-le, drop-append-le}
use Rattle.ped_base.specs.Lists.{is_among}
use Rattle.ped_views.specs.Views.{Range, Row, SubscriptPair, View}
use Rattle.ped_tree.specs.Tree.{Head, ExprTree, Int, Var, Element, Neg, Add, Sub, Mul, Div, Pow, Call}
use Rattle.ped_tree.specs.Constants.NamedConstants.{value_named}
use Rattle.ped_tree.specs.Nests.{Loop, indices_of, common_nest}
use Rattle.ped_affine.specs.AffineForms.{Terms, AffineForm, affine_of, form_variables}
use Rattle.ped_refs.specs.Loops.{nest_of}
use Rattle.ped_affine.specs.Ranges.{Setting, Around, inside, loop_range, ranges_inside, nest_ranges}
use Rattle.ped_affine.specs.PairViews.{Site, Depths, depths_of, is_other, other_variables, terms_of, row_of, other_coefficients, usable_pair, unusable, subscript_pair, position_of, positions_of, heads_of, view_at}
use Rattle.ped_graph.specs.Sides.{is_alone, IsSide, IsLike, IsOwnRow, IsOwnPosition, AreOwnPositions}
use Rattle.ped_graph.specs.declared.sides.Side.{Side}
use Rattle.ped_graph.proofs.FormLengths.{form_many}
use Rattle.ped_graph.proofs.NamedUnknowns.{zeros, padded, affine_padded}
use Rattle.ped_graph.proofs.Slices.{both_hold}

-- the derived test on ranges
pub range_decided : (a b : Range) → Decides (int_eq a.lo b.lo && (int_eq a.hi b.hi && (int_eq a.step b.step && beq a.steady b.steady))) (a ≡ b)
range_decided a b =
    Decides-like _ (λ h. same h.0 h.1.0 h.1.1.0 h.1.1.1) (λ e. (ap (λ r. r.lo) e, (ap (λ r. r.hi) e, (ap (λ r. r.step) e, ap (λ r. r.steady) e))))
    (Decides-and _ _ (Decides-int_eq a.lo b.lo) (Decides-and _ _ (Decides-int_eq a.hi b.hi) (Decides-and _ _ (Decides-int_eq a.step b.step) (booleans_Decides a.steady b.steady))))
  where
    same : a.lo ≡ b.lo → a.hi ≡ b.hi → a.step ≡ b.step → a.steady ≡ b.steady → a ≡ b
    same l h s t = λ i. record { lo = l i; hi = h i; step = s i; steady = t i }

-- what passes has what passing gives
passed : {X : Type 0} (P : X → Type 0) (p : X → Bool) (xs : List X) → AllByRecursion (λ x. p x ≡ true → P x) xs → AllByRecursion P (filter p xs)
passed P p [] h = tt
passed {X = X} P p (x ∷ xs) h = go (p x) (filter p xs) h.0 (passed P p xs h.1)
  where
    go : (b : Bool) (rest : List X) → (b ≡ true → P x) → AllByRecursion P rest → AllByRecursion P (cond b (x ∷ rest) rest)
    go true rest f k = (f refl, k)
    go false rest f k = k

both_all : {X : Type 0} (P : X → Type 0) (xs ys : List X) → AllByRecursion P xs → AllByRecursion P ys → AllByRecursion P (xs ++ ys)
both_all P [] ys h k = k
both_all P (x ∷ xs) ys h k = (h.0, both_all P xs ys h.1 k)

all_weaker : {X : Type 0} (P Q : X → Type 0) → ((x : X) → P x → Q x) → (xs : List X) → AllByRecursion P xs → AllByRecursion Q xs
all_weaker P Q f [] h = tt
all_weaker P Q f (x ∷ xs) h = (f x h.0, all_weaker P Q f xs h.1)

-- each variable of a subscript that is alone is that of a loop, or assigned, or a named constant
abbrev is_told : Setting → List Loop → List ℕ → Bool
is_told s nest x = is_among x (indices_of nest) || is_among x s.assigned || is_some (value_named s.constants x)

named : (s : Setting) (nest : List Loop) (e : ExprTree) → is_alone s nest e ≡ true → AllByRecursion (λ x. is_told s nest x ≡ true) (form_variables e)
named s nest (Int n) h = tt
named s nest (Var x) h = (h, tt)
named s nest (Element x subscripts) h = tt
named s nest (Neg a) h = named s nest a h
named s nest (Add a b) h = (let is = both_hold _ _ h in both_all (λ x. is_told s nest x ≡ true) (form_variables a) (form_variables b) (named s nest a is.0) (named s nest b is.1))
named s nest (Sub a b) h = (let is = both_hold _ _ h in both_all (λ x. is_told s nest x ≡ true) (form_variables a) (form_variables b) (named s nest a is.0) (named s nest b is.1))
named s nest (Mul a b) h = (let is = both_hold _ _ h in both_all (λ x. is_told s nest x ≡ true) (form_variables a) (form_variables b) (named s nest a is.0) (named s nest b is.1))
named s nest (Div a b) h = tt
named s nest (Pow a b) h = tt
named s nest (Call f arguments) h = tt

-- such a variable is another one only where it is a named constant
first_other : (u v w c : Bool) → (u || w || c) ≡ true → (not u && not v && not w) ≡ true → c ≡ true
first_other true v w c h k = cc
first_other false true w c h k = cc
first_other false false true c h k = cc
first_other false false false c h k = h

second_other : (u v w c : Bool) → (v || w || c) ≡ true → (not u && not v && not w) ≡ true → c ≡ true
second_other true v w c h k = cc
second_other false true w c h k = cc
second_other false false true c h k = cc
second_other false false false c h k = h

-- other variables of two subscripts that are alone are named constants
others_named : (s : Setting) (a b : Site) (e g : ExprTree) → is_alone s a.nest e ≡ true → is_alone s b.nest g ≡ true → AllByRecursion (λ x. is_some (value_named s.constants x) ≡ true) (other_variables s a b e g)
others_named s a b e g h k =
    passed (λ x. is_some (value_named s.constants x) ≡ true) (is_other s a b) (form_variables e ++ form_variables g)
    (both_all (λ x. is_other s a b x ≡ true → is_some (value_named s.constants x) ≡ true) (form_variables e) (form_variables g)
    (all_weaker _ (λ x. is_other s a b x ≡ true → is_some (value_named s.constants x) ≡ true)
    (λ x n. first_other (is_among x (indices_of a.nest)) (is_among x (indices_of b.nest)) (is_among x s.assigned) (is_some (value_named s.constants x)) n) (form_variables e) (named s a.nest e h))
    (all_weaker _ (λ x. is_other s a b x ≡ true → is_some (value_named s.constants x) ≡ true)
    (λ x n. second_other (is_among x (indices_of a.nest)) (is_among x (indices_of b.nest)) (is_among x s.assigned) (is_some (value_named s.constants x)) n) (form_variables g) (named s b.nest g k)))

-- all loops of a nest are common with itself
common_itself : (ls : List Loop) → common_nest ls ls ≡ ls
common_itself [] = refl
common_itself (l ∷ ls) = ap (λ (t : Bool). if t then l ∷ common_nest ls ls else []) (eq-eqb l.number l.number refl) ∙ ap (λ (ms : List Loop). l ∷ ms) (common_itself ls)

length-mapped : {X Y : Type 0} (f : X → Y) (xs : List X) → length (map f xs) ≡ length xs
length-mapped f [] = refl
length-mapped f (x ∷ xs) = ap suc (length-mapped f xs)

-- a position of two forms that is usable
used : (n : Depths) (a b : Option AffineForm) → (subscript_pair n a b).usable ≡ true → (f : AffineForm) × (g : AffineForm) × (a ≡ Some f) × (b ≡ Some g) × (subscript_pair n a b ≡ usable_pair n f g)
used n (Some f) (Some g) h = (f, g, refl, refl, go (pointwise int_eq (other_coefficients n.common n.source f) (other_coefficients n.common n.sink g)) h)
  where
    go : (t : Bool) → (if t then usable_pair n f g else unusable n).usable ≡ true → (if t then usable_pair n f g else unusable n) ≡ usable_pair n f g
    go true e = refl
    go false e = cc
used n (Some f) None h = cc
used n None b h = cc

-- the names of the loops alone
abbrev own_terms : Setting → List Loop → Terms
own_terms s nest = record { constants = s.constants; unknowns = indices_of nest }

-- a form with zeros behind it
padded_form : (names : List (List ℕ)) (o p : Option AffineForm) (f : AffineForm) → o ≡ option_map (padded names) p → o ≡ Some f → (g : AffineForm) × (p ≡ Some g) × (f ≡ padded names g)
padded_form names o (Some g) f is there = (g, refl, some_form (sym there ∙ is))
  where
    some_form : Some f ≡ Some (padded names g) → f ≡ padded names g
    some_form e = cc
padded_form names o None f is there = cc

-- the form of a subscript that is alone, by its position with itself
record OwnForm (s : Setting) (p : Site) (e : ExprTree) (q : SubscriptPair) : Type 0 where
  form : AffineForm
  affine : affine_of (own_terms s p.nest) e ≡ Some form
  many : length form.coefficients ≡ length p.nest
  coefficients : q.source.common ≡ form.coefficients
  constant : q.source.constant ≡ form.constant

own_form : (s : Setting) (p : Site) (e : ExprTree) (q : SubscriptPair) → q ≡ position_of s p p e e → q.usable ≡ true → is_alone s p.nest e ≡ true → OwnForm s p e q
own_form s p e q is usable alone =
    let others = other_variables s p p e e in
    let there = used (depths_of p p) (affine_of (terms_of s p.nest others) e) (affine_of (terms_of s p.nest others) e) (ap (λ (r : SubscriptPair). r.usable) (sym is) ∙ usable) in
    let part = padded_form others (affine_of (terms_of s p.nest others) e) (affine_of (own_terms s p.nest) e) there.0 (affine_padded others s.constants (others_named s p p e e alone alone) (indices_of p.nest) e) there.2 in
    let f = part.0 in
    let many : length f.coefficients ≡ length p.nest = form_many (own_terms s p.nest) e f part.1 ∙ length-mapped (λ (l : Loop). l.head.variable) p.nest in
    let common : length (common_nest p.nest p.nest) ≡ length p.nest = ap length (common_itself p.nest) in
    let pair : q ≡ usable_pair (depths_of p p) there.0 there.1 = is ∙ there.4 in
    record {
      form = f;
      affine = part.1;
      many = many;
      coefficients = ap (λ (r : SubscriptPair). r.source.common) pair ∙ (λ i. take (common i) (part.2 i).coefficients)
          ∙ take-append-le (length p.nest) f.coefficients (zeros others) (omega (arith, many)) ∙ take_all (length p.nest) f.coefficients (omega (arith, many));
      constant = ap (λ (r : SubscriptPair). r.source.constant) pair ∙ ap (λ (g : AffineForm). g.constant) part.2;
    }

-- a row of a form, divided behind the common loops
row_told : (common n : ℕ) (own row : Row) (f : AffineForm) → IsOwnRow common own row → own.common ≡ f.coefficients → own.constant ≡ f.constant → length f.coefficients ≡ n → row ≡ row_of common (n - common) f
row_told common n own row f is at_coefficients at_constant many =
    let front : row.common ≡ take common f.coefficients = is.common ∙ ap (λ (xs : List ℤ). take common xs) at_coefficients in
    let rest : length (drop common f.coefficients) ≤ n - common = omega (arith, many, length-drop common f.coefficients) in
    let inner : row.inner ≡ take (n - common) (drop common f.coefficients) = is.inner ∙ ap (λ (xs : List ℤ). drop common xs) at_coefficients ∙ sym (take_all (n - common) (drop common f.coefficients) rest) in
    let constant : row.constant ≡ f.constant = is.constant ∙ at_constant in
    λ i. record { common = front i; inner = inner i; constant = constant i }

module _ (names : List (List ℕ)) (common n : ℕ) (f : AffineForm) (within : common ≤ n) (many : length f.coefficients ≡ n) where
  -- zeros behind a form aren't in its row
  row_padded : row_of common (n - common) (padded names f) ≡ row_of common (n - common) f
  row_padded =
      let front = take-append-le common f.coefficients (zeros names) (omega (arith, within, many)) in
      let behind = drop-append-le common f.coefficients (zeros names) (omega (arith, within, many)) in
      let inner = take-append-le (n - common) (drop common f.coefficients) (zeros names) (omega (arith, within, many, length-drop common f.coefficients)) in
      λ i. record { common = front i; inner = (ap (λ (xs : List ℤ). take (n - common) xs) behind ∙ inner) i; constant = f.constant }

  -- nothing else stands behind the coefficients of the loops
  others_padded : other_coefficients common (n - common) (padded names f) ≡ zeros names
  others_padded =
      let behind = drop-append-le common f.coefficients (zeros names) (omega (arith, within, many)) in
      let rest = length-drop common f.coefficients in
      ap (λ (xs : List ℤ). drop (n - common) xs) behind ∙ drop-append-le (n - common) (drop common f.coefficients) (zeros names) (omega (arith, within, many, rest))
      ∙ ap (λ (xs : List ℤ). xs ++ zeros names) (drop_all (n - common) (drop common f.coefficients) (omega (arith, within, many, rest)))

same_zeros : (names : List (List ℕ)) → pointwise int_eq (zeros names) (zeros names) ≡ true
same_zeros [] = refl
same_zeros (x ∷ names) = same_zeros names

module _ (s : Setting) (a b : Site) (common : ℕ) (is : common ≡ length (common_nest a.nest b.nest)) where
  -- a position by those of its subscripts with themselves
  position_told : (e g : ExprTree) (p q r : SubscriptPair) → p ≡ position_of s a a e e → q ≡ position_of s b b g g → is_alone s a.nest e ≡ true → is_alone s b.nest g ≡ true → IsOwnPosition common p q r → r ≡ position_of s a b e g
  position_told e g p q r at_first at_second first second told =
      let m = length a.nest in
      let n = length b.nest in
      let f = own_form s a e p at_first told.first first in
      let h = own_form s b g q at_second told.second second in
      let others = other_variables s a b e g in
      let named = others_named s a b e g first second in
      let left : affine_of (terms_of s a.nest others) e ≡ Some (padded others f.form) = affine_padded others s.constants named (indices_of a.nest) e ∙ ap (option_map (padded others)) f.affine in
      let right : affine_of (terms_of s b.nest others) g ≡ Some (padded others h.form) = affine_padded others s.constants named (indices_of b.nest) g ∙ ap (option_map (padded others)) h.affine in
      let d : Depths = record { common = common; source = m - common; sink = n - common } in
      let same : d ≡ depths_of a b = λ i. record { common = is i; source = m - is i; sink = n - is i } in
      let own_first = f.coefficients in
      let own_second = h.coefficients in
      let within_first : common ≤ m = (let below = told.source.within in let long = ap length own_first in let many = f.many in omega (arith, below, long, many)) in
      let within_second : common ≤ n = (let below = told.sink.within in let long = ap length own_second in let many = h.many in omega (arith, below, long, many)) in
      let zeros_first = others_padded others common m f.form within_first f.many in
      let zeros_second = others_padded others common n h.form within_second h.many in
      let row_first = row_padded others common m f.form within_first f.many in
      let row_second = row_padded others common n h.form within_second h.many in
      let source = row_told common m p.source r.source f.form told.source f.coefficients f.constant f.many in
      let sink = row_told common n q.source r.sink h.form told.sink h.coefficients h.constant h.many in
      let usable = told.usable in
      let made : subscript_pair d (Some (padded others f.form)) (Some (padded others h.form)) ≡ usable_pair d f.form h.form =
      (λ i. if pointwise int_eq (zeros_first i) (zeros_second i) then usable_pair d (padded others f.form) (padded others h.form) else unusable d)
      ∙ ap (λ (t : Bool). if t then usable_pair d (padded others f.form) (padded others h.form) else unusable d) (same_zeros others)
      ∙ (λ i. record { usable = true; source = row_first i; sink = row_second i }) in
      (λ i. record { usable = usable i; source = source i; sink = sink i }) ∙ sym made ∙ (λ i. subscript_pair (same i) (sym left i) (sym right i))

  -- the positions by those of the subscripts with themselves
  positions_told : (es gs : List ExprTree) (ps qs rs : List SubscriptPair) → ps ≡ positions_of s a a es es → qs ≡ positions_of s b b gs gs
      → list_all (is_alone s a.nest) es ≡ true → list_all (is_alone s b.nest) gs ≡ true → AreOwnPositions common ps qs rs → rs ≡ positions_of s a b es gs
  positions_told [] gs [] qs rs at_first at_second first second told = told
  positions_told [] gs (p ∷ ps) qs rs at_first at_second first second told = cc
  positions_told (e ∷ es) gs [] qs rs at_first at_second first second told = cc
  positions_told (e ∷ es) [] (p ∷ ps) [] rs at_first at_second first second told = told
  positions_told (e ∷ es) [] (p ∷ ps) (q ∷ qs) rs at_first at_second first second told = cc
  positions_told (e ∷ es) (g ∷ gs) (p ∷ ps) [] rs at_first at_second first second told = cc
  positions_told (e ∷ es) (g ∷ gs) (p ∷ ps) (q ∷ qs) [] at_first at_second first second told = absurd told
  positions_told (e ∷ es) (g ∷ gs) (p ∷ ps) (q ∷ qs) (r ∷ rs) at_first at_second first second told =
      let one = both_hold _ _ first in
      let two = both_hold _ _ second in
      let here = position_told e g p q r (head_is p _ ps _ at_first) (head_is q _ qs _ at_second) one.0 two.0 told.0 in
      let rest = positions_told es gs ps qs rs (tail_is p _ ps _ at_first) (tail_is q _ qs _ at_second) one.1 two.1 told.1 in
      λ i. here i ∷ rest i
    where
      head_is : (x y : SubscriptPair) (xs ys : List SubscriptPair) → x ∷ xs ≡ y ∷ ys → x ≡ y
      head_is x y xs ys e = cc

      tail_is : (x y : SubscriptPair) (xs ys : List SubscriptPair) → x ∷ xs ≡ y ∷ ys → xs ≡ ys
      tail_is x y xs ys e = cc

-- as many ranges as loops
length-ranges : (s : Setting) (around : Around) (hs : List Head) → length (ranges_inside s around hs) ≡ length hs
length-ranges s around [] = refl
length-ranges s around (h ∷ hs) = ap suc (length-ranges s (inside around h (loop_range s around h)) hs)

-- the ranges of a nest, all of which are common with itself
own_ranges : (s : Setting) (p : Site) → (view_at s p p).loops ≡ nest_ranges s (heads_of p.nest)
own_ranges s p =
    let common : length (common_nest p.nest p.nest) ≡ length p.nest = ap length (common_itself p.nest) in
    let long : length (nest_ranges s (heads_of p.nest)) ≡ length p.nest = length-ranges s [] (heads_of p.nest) ∙ length-mapped (λ (l : Loop). l.head) p.nest in
    take_all (length (common_nest p.nest p.nest)) (nest_ranges s (heads_of p.nest)) (omega (arith, common, long))

-- the view of two sides
pub view_told : (w v : Side) (k : ℕ) (view : View) → k ≡ length (common_nest (nest_of w.nest.now) (nest_of v.nest.now)) → IsLike k w v view → (s : Setting) (a b : Site) → IsSide s a w → IsSide s b v → view ≡ view_at s a b
view_told w v k view is like s a b left right =
    let common : k ≡ length (common_nest a.nest b.nest) = is ∙ (λ i. length (common_nest (left.nest i) (right.nest i))) in
    let ranges : w.own.loops ≡ nest_ranges s (heads_of a.nest) = ap (λ (x : View). x.loops) left.own ∙ own_ranges s a in
    let others : v.own.loops ≡ nest_ranges s (heads_of b.nest) = ap (λ (x : View). x.loops) right.own ∙ own_ranges s b in
    let first : list_all (is_alone s a.nest) a.subscripts ≡ true = sym left.alone ∙ like.source_alone in
    let second : list_all (is_alone s b.nest) b.subscripts ≡ true = sym right.alone ∙ like.sink_alone in
    let at_first : w.own.positions ≡ positions_of s a a a.subscripts a.subscripts = ap (λ (x : View). x.positions) left.own in
    let at_second : v.own.positions ≡ positions_of s b b b.subscripts b.subscripts = ap (λ (x : View). x.positions) right.own in
    let positions : view.positions ≡ positions_of s a b a.subscripts b.subscripts =
    positions_told s a b k common a.subscripts b.subscripts w.own.positions v.own.positions view.positions at_first at_second first second like.positions in
    let loops : view.loops ≡ take (length (common_nest a.nest b.nest)) (nest_ranges s (heads_of a.nest)) = like.loops ∙ (λ i. take (common i) (ranges i)) in
    let source : view.source_inner ≡ drop (length (common_nest a.nest b.nest)) (nest_ranges s (heads_of a.nest)) = like.source_inner ∙ (λ i. drop (common i) (ranges i)) in
    let sink : view.sink_inner ≡ drop (length (common_nest a.nest b.nest)) (nest_ranges s (heads_of b.nest)) = like.sink_inner ∙ (λ i. drop (common i) (others i)) in
    λ i. record { loops = loops i; source_inner = source i; sink_inner = sink i; positions = positions i }
