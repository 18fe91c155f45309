-- Forms as the code makes them of parts.
use Rattle.std.proofs.Common.{◌≡◌, ℕ, suc, ◌+◌, ◌-◌, ◌≤◌, ◌^◌, refl, sym, ap, ◌∙◌, subst, arith, ℤ, pos, neg_ℤ, ◌+ℤ◌, ◌-ℤ◌, List, [], ◌∷◌, ◌++◌, map, length, replicate, take, drop, Option, Some, None, IfSome}
use Rattle.std.specs.Prelude.{All}
use Rattle.std.proofs.lemmas.Int.{ints}
use Rattle.std.proofs.lemmas.List.{length-append, length-map, length-replicate, length-take-le, length-drop}
use Rattle.ped_certificates.specs.Certificates.{plus}
use Rattle.ped_tree.specs.Tree.{ExprTree, Int, Var, Element, Neg, Add, Sub, Mul, Div, Pow, Call}
use Rattle.ped_tree.specs.Nests.{Loop, indices_of}
use Rattle.ped_tree.specs.Constants.ConstantExpressions.{constant_value}
use Rattle.ped_refs.specs.Loops.{nest_of, loop_of}
use Rattle.ped_refs.specs.declared.loops.Loop.{Loop as CodeLoop}
use Rattle.ped_affine.specs.AffineForms.{Terms, AffineForm, form, within_limits, constant_form, constant_or, affine_of, variable_form, negation, combination, product, combined, combined_form}
use Rattle.ped_evidence.specs.declared.forms.Form.{Form}
use Rattle.std.proofs.lemmas.List.Elements.{All-nil, All-cons, All-head, All-tail, All-append, All-take, All-drop, All-replicate, All-weaker}
use Rattle.ped_certificates.specs.Limits.{IsWithin}
use Rattle.ped_evidence.specs.Forms.{less}
use Rattle.ped_evidence.specs.Layouts.{Columns, width, widened}
use Rattle.ped_evidence.specs.Kept.{form_of, IsForm}

pub names_long : (around : List CodeLoop) (symbols : List (List ℕ)) → length (indices_of (nest_of around) ++ symbols) ≡ length around + length symbols
names_long around symbols =
    length-append (indices_of (nest_of around)) symbols ∙ ap (λ (n : ℕ). n + length symbols) (length-map (nest_of around) (λ (l : Loop). l.head.variable) ∙ length-map around loop_of)

-- a form of as many unknowns
pub as_many : (n m : ℕ) (o : Option Form) → n ≡ m → IfSome o (IsForm n (2 ^ 31) (2 ^ 62)) → IfSome o (IsForm m (2 ^ 31) (2 ^ 62))
as_many n m o e h = subst (λ (k : ℕ). IfSome o (IsForm k (2 ^ 31) (2 ^ 62))) e h

-- an expression with a constant value has the form of this value
pub known : (t : Terms) (e : ExprTree) (n : ℤ) → constant_value t.constants e ≡ Some n → affine_of t e ≡ within_limits (constant_form t.unknowns n)
known t (Int k) n h = let is : pos k ≡ n = cc in ap (λ (z : ℤ). within_limits (constant_form t.unknowns z)) is
known t (Var x) n h = ap (λ (o : Option ℤ). constant_or t.unknowns o (variable_form t.unknowns x)) h
known t (Element x subscripts) n h = absurd cc
known t (Neg a) n h = ap (λ (o : Option ℤ). constant_or t.unknowns o (negation (affine_of t a))) h
known t (Add a b) n h = ap (λ (o : Option ℤ). constant_or t.unknowns o (combination ◌+ℤ◌ (affine_of t a) (affine_of t b))) h
known t (Sub a b) n h = ap (λ (o : Option ℤ). constant_or t.unknowns o (combination ◌-ℤ◌ (affine_of t a) (affine_of t b))) h
known t (Mul a b) n h = ap (λ (o : Option ℤ). constant_or t.unknowns o (product (affine_of t a) (affine_of t b))) h
known t (Div a b) n h = ap (λ (o : Option ℤ). constant_or t.unknowns o None) h
known t (Pow a b) n h = ap (λ (o : Option ℤ). constant_or t.unknowns o None) h
known t (Call f arguments) n h = ap (λ (o : Option ℤ). constant_or t.unknowns o None) h

-- differences place by place
pub plus_negative : (cs bs : List ℤ) → length cs ≡ length bs → combined ◌-ℤ◌ cs bs ≡ plus cs (map neg_ℤ bs)
plus_negative [] [] e = refl
plus_negative [] (b ∷ bs) e = absurd (omega arith)
plus_negative (a ∷ cs) [] e = absurd (omega arith)
plus_negative (a ∷ cs) (b ∷ bs) e = ap (λ (xs : List ℤ). (a -ℤ b) ∷ xs) (plus_negative cs bs (omega arith))

pub less_is : (a b : AffineForm) → length a.coefficients ≡ length b.coefficients → combined_form ◌-ℤ◌ a b ≡ less a b
less_is a b e = ap (λ (xs : List ℤ). form xs (a.constant -ℤ b.constant)) (plus_negative a.coefficients b.coefficients e)

-- differences of numbers that are no further from zero than these
module _ (m k most : ℕ) (room : m + k ≤ most) where
  within : (a b : ℤ) → IsWithin m a → IsWithin k b → IsWithin most (a -ℤ b)
  within a b p q = omega (arith, ints)

  all_within : (xs ys : List ℤ) → length xs ≡ length ys → All (IsWithin m) xs → All (IsWithin k) ys → (length (combined ◌-ℤ◌ xs ys) ≡ length xs) × All (IsWithin most) (combined ◌-ℤ◌ xs ys)
  all_within [] ys e p q = (refl, All-nil (IsWithin most))
  all_within (x ∷ xs) [] e p q = absurd (omega arith)
  all_within (x ∷ xs) (y ∷ ys) e p q =
      let rest = all_within xs ys (omega arith) (All-tail (IsWithin m) x xs p) (All-tail (IsWithin k) y ys q) in
      (ap suc rest.0, All-cons (IsWithin most) (x -ℤ y) (combined ◌-ℤ◌ xs ys) (within x y (All-head (IsWithin m) x xs p) (All-head (IsWithin k) y ys q)) rest.1)

  pub difference_fits : (n : ℕ) (a b r : Form) → IsForm n m m a → IsForm n k k b → form_of r ≡ combined_form ◌-ℤ◌ (form_of a) (form_of b) → IsForm n most most r
  difference_fits n a b r p q e =
      let all = all_within a.coefficients b.coefficients (p.as_many ∙ sym q.as_many) p.coefficients q.coefficients in
      let numbers : r.coefficients ≡ combined ◌-ℤ◌ a.coefficients b.coefficients = ap (λ (f : AffineForm). f.coefficients) e in
      let constant : r.constant ≡ a.constant -ℤ b.constant = ap (λ (f : AffineForm). f.constant) e in
      record {
        as_many = ap length numbers ∙ (all.0 ∙ p.as_many);
        coefficients = subst (All (IsWithin most)) (sym numbers) all.1;
        constant = subst (IsWithin most) (sym constant) (within a.constant b.constant p.constant q.constant);
      }

-- a form over all unknowns has as many coefficients as there are unknowns
pub widened_fits : (c : Columns) (before loops : ℕ) (f r : Form) → before + loops ≤ c.source + c.sink → IsForm (loops + c.symbols) (2 ^ 31) (2 ^ 62) f → form_of r ≡ widened c before loops (form_of f) → IsForm (width c) (2 ^ 62) (2 ^ 62) r
widened_fits c before loops f r within h e =
    let cs : List ℤ = f.coefficients in
    let m : ℕ = c.source + c.sink + c.quotients - (before + loops) in
    let P = IsWithin (2 ^ 62) in
    let small : All P cs = All-weaker (IsWithin (2 ^ 31)) P (λ x p. omega (arith, p)) cs h.coefficients in
    let zero : P (pos 0) = omega arith in
    let numbers : r.coefficients ≡ replicate before (pos 0) ++ take loops cs ++ replicate m (pos 0) ++ drop loops cs = ap (λ (g : AffineForm). g.coefficients) e in
    let one = length-append (replicate before (pos 0) ++ take loops cs ++ replicate m (pos 0)) (drop loops cs) in
    let two = length-append (replicate before (pos 0) ++ take loops cs) (replicate m (pos 0)) in
    let three = length-append (replicate before (pos 0)) (take loops cs) in
    let four = length-replicate before (pos 0) in
    let five = length-replicate m (pos 0) in
    let six = length-take-le loops cs (omega (arith, h.as_many)) in
    let seven = length-drop loops cs in
    let many = h.as_many in
    let all = ap length numbers in
    record {
      as_many = omega arith;
      coefficients = subst (All P) (sym numbers) (All-append P (replicate before (pos 0) ++ take loops cs ++ replicate m (pos 0)) (drop loops cs)
          (All-append P (replicate before (pos 0) ++ take loops cs) (replicate m (pos 0)) (All-append P (replicate before (pos 0)) (take loops cs) (All-replicate P before (pos 0) zero) (All-take P loops cs small)) (All-replicate P m (pos 0) zero))
          (All-drop P loops cs small));
      constant = subst P (sym (ap (λ (g : AffineForm). g.constant) e)) h.constant;
    }
