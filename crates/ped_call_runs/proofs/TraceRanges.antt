-- Names of CALLs' own along the trace: those of a piece belong to CALLs with the numbers of the piece, and none stands twice.
use Rattle.std.proofs.Common.{◌≡◌, ℕ, zero, suc, ◌+◌, ◌≤◌, ℤ, List, [], ◌∷◌, ◌++◌, length, Bool, true, false, ◌||◌, Option, Some, None, refl, sym, ap, ◌∙◌, arith, if◌then◌else◌}
use Rattle.ped_base.specs.Lists.{is_same_text, is_among}
use Rattle.ped_base.proofs.NameEquality.{same_is, same_itself}
use Rattle.ped_tree.specs.Accesses.{listed}
use Rattle.ped_tree.specs.Numbering.{statement_count, statements_count}
use Rattle.ped_tree.specs.Tree.{ExprTree, StmtTree, StmtTrees, Assign, If, Do, Print, Read, Stop, Comment, no_stmts, more_stmts}
use Rattle.ped_steps.specs.ped_symbols.specs.Entries.{entry_of, with_entry}
use Rattle.ped_steps.specs.ped_symbols.specs.NameRefusals.{has_twice}
use Rattle.ped_steps.specs.ped_symbols.specs.Values.{Values, fixed_value}
use Rattle.ped_calls.specs.ped_units.specs.Forms.{Called}
use Rattle.ped_calls.specs.ped_units.specs.Units.{ProgramUnit, ProgramUnits, unit_of, call_of}
use Rattle.ped_calls.specs.ped_units.specs.Expanding.{Given, with_new, Meanings, called_replaced, is_variable_name, Bound, standing, bound_by, bound_arguments, body_names, constants_of, with_formals, with_constants, Renamed, meanings_in, call_comment, Expanded, AllExpanded, expanded_in, all_expanded_in, call_expanded}
use Rattle.ped_call_runs.specs.UnitRuns.{own, number_inside, count_or, sized, all_sized, size_in, call_size}
use Rattle.ped_call_runs.proofs.EachCalls.{OfCall, EachCall, AllCalls, UnitFits, FitsAt}
use Rattle.ped_call_runs.proofs.Traces.{Trace, value_traced, arguments_traced, locals_traced, CallTraced, traced_or, traced, all_traced, unit_traced, call_traced}
use Rattle.ped_call_runs.proofs.TraceNumbers.{none_first, one_less}
use Rattle.ped_call_runs.proofs.TraceCalls.{as_many}
use Rattle.ped_call_runs.proofs.MeaningEntries.{kept_entry, new_entry, constants_kept, formals_kept}
use Rattle.ped_call_runs.proofs.OwnNames.{firsts, OwnIn, NoneTwice, outside_in, among_joined, none_twice_joined, own_in_wider, own_in_joined}
use Rattle.ped_call_runs.proofs.TraceOwn.{own_here, arguments_outside, arguments_own, locals_own, locals_outside, locals_none_twice}

-- the first names of the pairs are of CALLs whose numbers are not below the first and below the second, and none stands twice
pub record AreOwnPairs (lo hi : ℕ) (ps : List (List ℕ × List ℕ)) : Type 0 where
  pub own : OwnIn lo hi ps
  pub once : NoneTwice ps

pub no_pairs : (lo hi : ℕ) → AreOwnPairs lo hi []
no_pairs lo hi = record { own = tt; once = tt }

pub pairs_wider : (lo hi lower higher : ℕ) (ps : List (List ℕ × List ℕ)) → lower ≤ lo → hi ≤ higher → AreOwnPairs lo hi ps → AreOwnPairs lower higher ps
pairs_wider lo hi lower higher ps h k p = record { own = own_in_wider lo hi lower higher ps h k p.own; once = p.once }

pub pairs_joined : (lo mid hi : ℕ) (ps qs : List (List ℕ × List ℕ)) → lo ≤ mid → mid ≤ hi → AreOwnPairs lo mid ps → AreOwnPairs mid hi qs → AreOwnPairs lo hi (ps ++ qs)
pairs_joined lo mid hi ps qs h k p q = record {
  own = own_in_joined lo hi ps qs (own_in_wider lo mid lo hi ps (same_le lo) k p.own) (own_in_wider mid hi lo hi qs h (same_le hi) q.own);
  once = none_twice_joined lo mid hi ps qs p.own q.own p.once q.once;
}
  where
    same_le : (n : ℕ) → n ≤ n
    same_le n = omega (arith)

-- an entry for the name is there
abbrev pub HasEntry : Meanings → List ℕ → Type 0
HasEntry m x = (e : ExprTree) × (entry_of m x ≡ Some e)

entered : (m : Meanings) (x : List ℕ) (a : ExprTree) → HasEntry (with_entry m x a) x
entered m x a = go (entry_of m x) refl
  where
    go : (o : Option ExprTree) → entry_of m x ≡ o → HasEntry (with_entry m x a) x
    go None h = (a, new_entry m x a h)
    go (Some e) h = (e, kept_entry m x a x e h)

-- each dummy argument has one, where there are as many arguments
pub formals_entered : (fs : List (List ℕ)) (es : List ExprTree) (m : Meanings) → length es ≡ length fs → (y : List ℕ) → is_among y fs ≡ true → HasEntry (with_formals m fs es) y
formals_entered [] es m same y h = absurd cc
formals_entered (f ∷ fs) [] m same y h = absurd (none_first (length fs) (sym same))
formals_entered (f ∷ fs) (a ∷ es) m same y h = go (is_same_text y f) refl (formals_entered fs es (with_entry m f a) (one_less (length es) (length fs) same) y)
  where
    go : (t : Bool) → is_same_text y f ≡ t → (is_among y fs ≡ true → HasEntry (with_formals (with_entry m f a) fs es) y) → HasEntry (with_formals (with_entry m f a) fs es) y
    go true e more =
        let first = entered m f a in
        (first.0, formals_kept fs es (with_entry m f a) y first.0 (ap (λ (z : List ℕ). entry_of (with_entry m f a) z) (same_is y f e) ∙ first.1))
    go false e more = more (sym (ap (λ (t : Bool). t || is_among y fs) e) ∙ h)

-- as many arguments are bound as there are
pub meant_length : (constants : Values) (es : List ExprTree) (g : Given) → length (bound_arguments constants es g).meant ≡ length es
meant_length constants [] g = refl
meant_length constants (e ∷ es) g = go (is_variable_name constants e) (fixed_value constants e) (meant_length constants es)
  where
    go : (u : Bool) (o : Option ℤ) → ((g : Given) → length (bound_arguments constants es g).meant ≡ length es)
        → length (if u then standing e (bound_arguments constants es g) else bound_by o e g (bound_arguments constants es)).meant ≡ suc (length es)
    go true o more = ap suc (more g)
    go false (Some v) more = ap suc (more g)
    go false None more = ap suc (more (with_new g))

-- the pairs of arguments, before others
module _ (constants : Values) (n : ℕ) (qs : List (List ℕ × List ℕ)) (once : NoneTwice qs) where
  pub arguments_apart : (xs : List (List ℕ)) (es : List ExprTree) (j : ℕ) (g : Given) → has_twice xs ≡ false → ((y : List ℕ) → is_among y xs ≡ true → is_among (own n y) (firsts qs) ≡ false)
      → NoneTwice ((arguments_traced constants n xs es j g).pairs ++ qs)
  arguments_apart [] es j g h outside = once
  arguments_apart (y ∷ ys) [] j g h outside = once
  arguments_apart (y ∷ ys) (e ∷ es) j g h outside =
      go (is_variable_name constants e) (fixed_value constants e) (λ j g. arguments_apart ys es j g parts.1 (λ z k. outside z (ap (λ (t : Bool). is_same_text z y || t) k ∙ either (is_same_text z y))))
    where
      or_none : (a b : Bool) → a || b ≡ false → (a ≡ false) × (b ≡ false)
      or_none true b h = absurd cc
      or_none false b h = (refl, h)

      either : (t : Bool) → t || true ≡ true
      either true = refl
      either false = refl

      parts : (is_among y ys ≡ false) × (has_twice ys ≡ false)
      parts = or_none (is_among y ys) (has_twice ys) h

      here : is_among y (y ∷ ys) ≡ true
      here = ap (λ (t : Bool). t || is_among y ys) (same_itself y)

      go : (u : Bool) (o : Option ℤ) → ((j : ℕ) (g : Given) → NoneTwice ((arguments_traced constants n ys es j g).pairs ++ qs))
          → NoneTwice ((if u then record (arguments_traced constants n ys es j g) { gaps = j ∷ (arguments_traced constants n ys es j g).gaps } else value_traced o n y j g (arguments_traced constants n ys es)).pairs ++ qs)
      go true o more = more j g
      go false (Some v) more = more j g
      go false None more =
          let rest = arguments_traced constants n ys es (j + 1) (with_new g) in
          (among_joined (own n y) rest.pairs qs (arguments_outside constants n y ys es (j + 1) (with_new g) parts.0) (outside y here), more (j + 1) (with_new g))

module _ (k : Meanings) (size : Called → ℕ) (inner : Called → Given → Expanded Given) (call : CallTraced) (fits : Called → Type 0) where
  abbrev pub CallsOwn : Type 0
  CallsOwn = (c : Called) → fits c → (n j : ℕ) (g : Given) → AreOwnPairs n (n + size c) (call c n j g).pairs

  or_owned : CallsOwn → (n j : ℕ) (g : Given) (o : Option Called) → OfCall fits o → AreOwnPairs n (n + count_or size o) (traced_or call n j g o).pairs
  or_owned calls n j g None h = no_pairs n (n + 1)
  or_owned calls n j g (Some c) h = calls c h n j g

  mutual
    pub owned : CallsOwn → (t : StmtTree) (n j : ℕ) (g : Given) → EachCall fits t → AreOwnPairs n (n + sized size t) (traced k size inner call t n j g).pairs
    owned calls (Assign left right) n j g h = or_owned calls n j g (call_of left right) h
    owned calls (If c x y) n j g h =
        let made : AllExpanded Given = all_expanded_in k inner x g in
        let front = all_traced k size inner call x (n + 1) (j + 1) g in
        let behind = all_traced k size inner call y (n + 1 + all_sized size x) (j + 1 + statements_count made.statements) made.state in
        pairs_wider (n + 1) (n + 1 + all_sized size x + all_sized size y) n (n + (1 + all_sized size x + all_sized size y)) (front.pairs ++ behind.pairs) (omega (arith)) (omega (arith))
        (pairs_joined (n + 1) (n + 1 + all_sized size x) (n + 1 + all_sized size x + all_sized size y) front.pairs behind.pairs (omega (arith)) (omega (arith))
        (all_owned calls x (n + 1) (j + 1) g h.0) (all_owned calls y (n + 1 + all_sized size x) (j + 1 + statements_count made.statements) made.state h.1))
    owned calls (Do head body) n j g h =
        pairs_wider (n + 1) (n + 1 + all_sized size body) n (n + (1 + all_sized size body)) (all_traced k size inner call body (n + 1) (j + 1) g).pairs (omega (arith)) (omega (arith)) (all_owned calls body (n + 1) (j + 1) g h)
    owned calls (Print items) n j g h = no_pairs n (n + 1)
    owned calls (Read items) n j g h = no_pairs n (n + 1)
    owned calls Stop n j g h = no_pairs n (n + 1)
    owned calls (Comment text) n j g h = no_pairs n (n + 0)

    pub all_owned : CallsOwn → (ts : StmtTrees) (n j : ℕ) (g : Given) → AllCalls fits ts → AreOwnPairs n (n + all_sized size ts) (all_traced k size inner call ts n j g).pairs
    all_owned calls no_stmts n j g h = no_pairs n (n + 0)
    all_owned calls (more_stmts t rest) n j g h =
        let made : Expanded Given = expanded_in k inner t g in
        let front = traced k size inner call t n j g in
        let behind = all_traced k size inner call rest (n + sized size t) (j + statement_count made.statement) made.state in
        pairs_wider n (n + sized size t + all_sized size rest) n (n + (sized size t + all_sized size rest)) (front.pairs ++ behind.pairs) (omega (arith)) (omega (arith))
        (pairs_joined n (n + sized size t) (n + sized size t + all_sized size rest) front.pairs behind.pairs (omega (arith)) (omega (arith))
        (owned calls t n j g h.0) (all_owned calls rest (n + sized size t) (j + statement_count made.statement) made.state h.1))

module _ (us : ProgramUnits) where
  unit_owned : (depth : ℕ) → ((k : Meanings) (c : Called) → FitsAt us depth c → (n j : ℕ) (g : Given) → AreOwnPairs n (n + call_size depth us c) (call_traced depth us [] k c n j g).pairs)
      → (constants : Values) (k : Meanings) (c : Called) (n j : ℕ) (g : Given) (o : Option ProgramUnit) → UnitFits (FitsAt us depth) c o
      → AreOwnPairs n (n + size_in (call_size depth us) c o) (unit_traced depth us (call_traced depth us []) k constants c n j g o).pairs
  unit_owned depth deeper constants k c n j g None h = no_pairs n (n + 1)
  unit_owned depth deeper constants k c n j g (Some v) h =
      let es : List ExprTree = listed (called_replaced k c).arguments in
      let b : Bound = bound_arguments constants es g in
      let start : Renamed = record { meanings = with_constants (with_formals [] v.formals b.meant) (constants_of v); given = b.given } in
      let r : Renamed = meanings_in v b in
      let first : ℕ = j + 1 + statement_count (call_comment (called_replaced k c)) in
      let made : ℕ = length b.assignments in
      let arguments : Trace = arguments_traced constants n v.formals es first g in
      let locals : List (List ℕ × List ℕ) = locals_traced n v (body_names v) start in
      let inside : Trace = all_traced r.meanings (call_size depth us) (call_expanded depth us []) (call_traced depth us [] r.meanings) v.tree.body (number_inside c n) (first + made) r.given in
      let many : ℕ = length (listed c.arguments) in
      let within : ℕ = all_sized (call_size depth us) v.tree.body in
      let long : length b.meant ≡ length v.formals = meant_length constants es g ∙ as_many k c.arguments ∙ h.0 in
      let body : AreOwnPairs (number_inside c n) (number_inside c n + within) inside.pairs = all_owned r.meanings (call_size depth us) (call_expanded depth us []) (call_traced depth us [] r.meanings) (FitsAt us depth) (deeper r.meanings) v.tree.body (number_inside c n) (first + made) r.given h.2 in
      let later : AreOwnPairs (n + 1) (n + (0 + 1 + many + within)) inside.pairs = pairs_wider (n + 1 + many) (n + 1 + many + within) (n + 1) (n + (0 + 1 + many + within)) inside.pairs (omega (arith)) (omega (arith)) body in
      let behind : AreOwnPairs n (n + (0 + 1 + many + within)) (locals ++ inside.pairs) =
      pairs_joined n (n + 1) (n + (0 + 1 + many + within)) locals inside.pairs (omega (arith)) (omega (arith)) (record { own = locals_own n v (body_names v) start; once = locals_none_twice n v (body_names v) start }) later in
      record {
        own = own_in_joined n (n + (0 + 1 + many + within)) arguments.pairs (locals ++ inside.pairs) (own_in_wider n (n + 1) n (n + (0 + 1 + many + within)) arguments.pairs (omega (arith)) (omega (arith)) (arguments_own constants n v.formals es first g)) behind.own;
        once = arguments_apart constants n (locals ++ inside.pairs) behind.once v.formals es first g h.1 (λ y l.
            let e = formals_entered v.formals b.meant [] long y l in
            among_joined (own n y) locals inside.pairs
            (locals_outside n v (body_names v) start y e.0 (constants_kept (constants_of v) (with_formals [] v.formals b.meant) y e.0 e.1))
            (outside_in n (n + 1) (n + (0 + 1 + many + within)) (own n y) inside.pairs (own_here n y) later.own));
      }

  -- CALLs of any depth
  pub calls_owned : (depth : ℕ) (constants : Values) (k : Meanings) (c : Called) → FitsAt us depth c → (n j : ℕ) (g : Given) → AreOwnPairs n (n + call_size depth us c) (call_traced depth us constants k c n j g).pairs
  calls_owned zero constants k c h n j g = no_pairs n (n + 1)
  calls_owned (suc depth) constants k c h n j g = unit_owned depth (calls_owned depth []) constants k c n j g (unit_of us c.name) h
