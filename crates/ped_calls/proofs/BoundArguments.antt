-- Arguments bound one by one, and dummy arguments that get their meanings one by one.
use Rattle.std.proofs.Common.{◌≡◌, ◌+◌, ◌<◌, arith, get_or, ℕ, ℤ, List, [], ◌∷◌, ◌++◌, drop, length, Bool, true, false, Option, Some, None, refl, sym, ap, ◌∙◌, append_assoc, if◌then◌else◌}
use Rattle.std.proofs.lemmas.List.{drop-drop, at_drop_more}
use Rattle.ped_tree.specs.Tree.{ExprTree, StmtTree, StmtTrees}
use Rattle.ped_tree.specs.Numbering.{statements_count}
use Rattle.ped_links.specs.ped_symbols.specs.Entries.{with_entry}
use Rattle.ped_links.specs.ped_symbols.specs.Values.{Values, fixed_value}
use Rattle.ped_links.specs.ped_units.specs.Expanding.{Given, Meanings, Bound, standing, bound_by, bound_arguments, is_variable_name, with_new, with_formals, behind_stmts}
use Rattle.ped_calls.specs.Binding.{BindsOn}

-- what arguments are bound to, and others behind them
abbrev pub then_bound : Bound → Bound → Bound
then_bound a b = record { meant = a.meant ++ b.meant; assignments = a.assignments ++ b.assignments; given = b.given }

-- one argument by whether it is a variable's name and by its value, before others
abbrev one_before : Bool → Option ℤ → ExprTree → Given → (Given → Bound) → Bound
one_before b o e g others = if b then standing e (others g) else bound_by o e g others

bound_one : (cs : Values) (b : Bool) (o : Option ℤ) (e : ExprTree) (es : List ExprTree) (g : Given)
    → one_before b o e g (bound_arguments cs es) ≡ then_bound (one_before b o e g (bound_arguments cs [])) (bound_arguments cs es (one_before b o e g (bound_arguments cs [])).given)
bound_one cs true o e es g = refl
bound_one cs false (Some n) e es g = refl
bound_one cs false None e es g = refl

-- the first of several arguments
pub bound_first : (cs : Values) (e : ExprTree) (es : List ExprTree) (g : Given)
    → bound_arguments cs (e ∷ es) g ≡ then_bound (bound_arguments cs (e ∷ []) g) (bound_arguments cs es (bound_arguments cs (e ∷ []) g).given)
bound_first cs e es g = bound_one cs (is_variable_name cs e) (fixed_value cs e) e es g

count_one : (cs : Values) (b : Bool) (o : Option ℤ) (e : ExprTree) (es : List ExprTree) (g : Given) (body : StmtTrees)
    → ((h : Given) → statements_count (behind_stmts (bound_arguments cs es h).assignments body) ≡ length (bound_arguments cs es h).assignments + statements_count body)
    → statements_count (behind_stmts (one_before b o e g (bound_arguments cs es)).assignments body) ≡ length (one_before b o e g (bound_arguments cs es)).assignments + statements_count body
count_one cs true o e es g body h = h g
count_one cs false (Some n) e es g body h = h g
count_one cs false None e es g body h = let k = h (with_new g) in omega (arith, k)

-- each assignment of an argument is one statement
pub bound_count : (cs : Values) (es : List ExprTree) (g : Given) (body : StmtTrees)
    → statements_count (behind_stmts (bound_arguments cs es g).assignments body) ≡ length (bound_arguments cs es g).assignments + statements_count body
bound_count cs [] g body = omega arith
bound_count cs (e ∷ es) g body = count_one cs (is_variable_name cs e) (fixed_value cs e) e es g body (λ h. bound_count cs es h body)

with_none : (m : Meanings) (fs : List (List ℕ)) → with_formals m fs [] ≡ m
with_none m [] = refl
with_none m (f ∷ fs) = refl

-- the first of several dummy arguments
pub formals_first : (m : Meanings) (fs : List (List ℕ)) (e : ExprTree) (es : List ExprTree) → with_formals (with_formals m fs (e ∷ [])) (drop 1 fs) es ≡ with_formals m fs (e ∷ es)
formals_first m [] e es = refl
formals_first m (f ∷ fs) e es = ap (λ (n : Meanings). with_formals n fs es) (with_none (with_entry m f e) fs)

-- the dummy argument at a place
pub formal_at : (m : Meanings) (fs : List (List ℕ)) (f : List ℕ) (rest : List (List ℕ)) (e : ExprTree) → fs ≡ f ∷ rest → with_formals m fs (e ∷ []) ≡ with_entry m f e
formal_at m fs f rest e h = ap (λ (xs : List (List ℕ)). with_formals m xs (e ∷ [])) h ∙ with_none (with_entry m f e) rest

-- at first
pub binds_first : (cs : Values) (fs : List (List ℕ)) (es : List ExprTree) (m : Meanings) (front : List StmtTree) (g : Given) → BindsOn cs fs es m front g es 0 m front g
binds_first cs fs es m front g = record { meanings = refl; assignments = refl; given = refl }

-- one argument more
pub binds_more : (cs : Values) (fs : List (List ℕ)) (all : List ExprTree) (m : Meanings) (front : List StmtTree) (g : Given)
    (left rest : List ExprTree) (place : ℕ) (now next : Meanings) (done more : List StmtTree) (before behind : Given) (e meant : ExprTree)
    → BindsOn cs fs all m front g left place now done before
    → left ≡ e ∷ rest
    → meant ∷ [] ≡ (bound_arguments cs (e ∷ []) before).meant
    → more ≡ done ++ (bound_arguments cs (e ∷ []) before).assignments
    → behind ≡ (bound_arguments cs (e ∷ []) before).given
    → next ≡ with_formals now (drop place fs) (meant ∷ [])
    → BindsOn cs fs all m front g rest (place + 1) next more behind
binds_more cs fs all m front g left rest place now next done more before behind e meant inv l hm ha hg hn =
    let one = bound_arguments cs (e ∷ []) before in
    let others = bound_arguments cs rest behind in
    let whole : bound_arguments cs left before ≡ then_bound one others =
    ap (λ (es : List ExprTree). bound_arguments cs es before) l ∙ bound_first cs e rest before ∙ ap (λ (h : Given). then_bound one (bound_arguments cs rest h)) (sym hg) in
    record {
      meanings =
          ap (λ (n : Meanings). with_formals n (drop (place + 1) fs) others.meant) hn
          ∙ ap (λ (xs : List (List ℕ)). with_formals (with_formals now (drop place fs) (meant ∷ [])) xs others.meant) (sym (drop-drop 1 place fs))
          ∙ formals_first now (drop place fs) meant others.meant
          ∙ ap (λ (ts : List ExprTree). with_formals now (drop place fs) (ts ++ others.meant)) hm
          ∙ ap (λ (b : Bound). with_formals now (drop place fs) b.meant) (sym whole)
          ∙ inv.meanings;
      assignments =
          ap (λ (ss : List StmtTree). ss ++ others.assignments) ha
          ∙ append_assoc done one.assignments others.assignments
          ∙ ap (λ (b : Bound). done ++ b.assignments) (sym whole)
          ∙ inv.assignments;
      given = ap (λ (b : Bound). b.given) (sym whole) ∙ inv.given;
    }

-- the first of what is left of a list
pub first_left : {X : Type 0} (xs : List X) (i : ℕ) (x : X) → i < length xs → x ≡ get_or xs i x → drop i xs ≡ x ∷ drop (i + 1) xs
first_left {X} xs i x h e = at_drop_more (λ (ys : List X). ys) xs i x h ∙ ap (λ (y : X). y ∷ drop (i + 1) xs) (sym e)

-- the dummy argument at a place of their list
pub formal_kept : (m : Meanings) (fs : List (List ℕ)) (place : ℕ) (f : List ℕ) (e : ExprTree) → place < length fs → f ≡ get_or fs place f → with_entry m f e ≡ with_formals m (drop place fs) (e ∷ [])
formal_kept m fs place f e h is = sym (formal_at m (drop place fs) f (drop (place + 1) fs) e (first_left fs place f h is))

-- all arguments
pub binds_last : (cs : Values) (fs : List (List ℕ)) (all : List ExprTree) (m : Meanings) (front : List StmtTree) (g : Given) (left : List ExprTree) (place : ℕ) (now : Meanings) (done : List StmtTree) (behind : Given)
    → BindsOn cs fs all m front g left place now done behind → left ≡ [] → now ≡ with_formals m fs (bound_arguments cs all g).meant
binds_last cs fs all m front g left place now done behind inv none =
    sym (with_none now (drop place fs)) ∙ ap (λ (es : List ExprTree). with_formals now (drop place fs) (bound_arguments cs es behind).meant) (sym none) ∙ inv.meanings
