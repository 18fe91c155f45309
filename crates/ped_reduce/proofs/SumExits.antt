-- The exits: what each iteration has added goes to the scalars, in order.
use Rattle.std.proofs.Common.{◌≡◌, ℕ, ◌+◌, ℤ, pos, ◌+ℤ◌, ◌*ℤ◌, List, [], ◌∷◌, ◌++◌, Bool, true, inl, inr, Result, Ok, Err, refl, sym, ap, subst, ◌∙◌, if◌then◌else◌}
use Rattle.std.specs.Ordering.{int_eq}
use Rattle.std.proofs.lemmas.Bool.{both_ways}
use Rattle.ped_base.specs.Lists.{is_same_text}
use Rattle.ped_base.specs.Arithmetic.Arithmetic.{sum_of, product_of}
use Rattle.ped_tree.specs.declared.conditions.Relation.TheVariants.{Eq}
use Rattle.ped_tree.specs.Tree.{ExprTree, Int, Var, Add, Mul, Rel, no_stmts, more_stmts}
use Rattle.ped_tree.specs.Numbering.{statements_count}
use Rattle.ped_rules.specs.ped_store.specs.Cells.{Cell, Scalar, same_cell}
use Rattle.ped_rules.specs.ped_store.specs.Stores.{Content, Number, Store, put, number_read, is_storable, storable, out_of_range}
use Rattle.ped_rules.specs.ped_store.specs.Acts.{Manner, Touch, Place, did, Act}
use Rattle.ped_rules.specs.ped_laws.specs.Acts.Orders.{IsIn}
use Rattle.ped_rules.specs.ped_laws.proofs.ActLaws.SameCells.{cell_itself, other_cell}
use Rattle.ped_rules.specs.ped_laws.proofs.ActLaws.Lists.{in_parts}
use Rattle.ped_rules.specs.ped_laws.proofs.ActLaws.Stores.{put_same, put_other}
use Rattle.ped_rules.specs.ped_eval.specs.Scopes.{Setting, Scope, turns_of, Names, names_in, place_of}
use Rattle.ped_rules.specs.ped_eval.specs.Evaluation.{Seen, cell_seen, index_seen, Evaluated, having_seen, onward, ◌>>>◌, given, by_number, numbered, number_behind}
use Rattle.ped_rules.specs.ped_eval.specs.Values.{relation_holds, value, truth}
use Rattle.ped_rules.specs.ped_eval.specs.Statements.{Stored, assigned, assignment_touches, write_touch}
use Rattle.ped_rules.specs.ped_eval.specs.Runs.{going, Run, nothing_done, does, on_value, run_assignment, run_if, run, run_all}
use Rattle.ped_rules.specs.ped_laws.specs.Runs.Replaying.{act}
use Rattle.ped_reduce.specs.Lowering.{Partials, at, addition, exit, exits}
use Rattle.ped_reduce.proofs.SplitSums.{AreJoined, storable_by, join_sum}
use Rattle.ped_reduce.proofs.SumStores.{is_array_of, part, Adds, AreDistinct, high_array, low_array, flag_array, adds_same}
use Rattle.ped_reduce.proofs.SumSteps.{AllSeenBy, StandsAt, reads_leave, element_comes, scalar_comes}
use Rattle.ped_reduce.proofs.SumParts.{Good, good_two, going_then}

-- each of these scalars stands once among them, with arrays of its own
abbrev pub AllDistinct : List Partials → Type 0
AllDistinct [] = Unit {0}
AllDistinct (p ∷ ps) = ((o : Partials) → IsIn o ps → AreDistinct p o) × AllDistinct ps

-- the cell is that of none of these scalars
abbrev pub IsNoTotal : List Partials → Cell → Type 0
IsNoTotal ps c = (p : Partials) → IsIn p ps → Scalar p.scalar ≡ c → ⊥

module _ (ps : List Partials) (q : Setting) (v : List ℕ) (k : ℤ) (told : Cell) (scope : Scope) (stands : StandsAt ps (names_in q scope) v k told) where
  abbrev g : Names
  g = names_in q scope

  module _ (p : Partials) (i : IsIn p ps) (u : Store) where
    abbrev flag_seen : List Seen
    flag_seen = index_seen told k ∷ (cell_seen (part p.flag k) (u (part p.flag k)) ∷ [])

    -- the condition
    flag_tells : (n : ℤ) → u (part p.flag k) ≡ Number n → truth g (Rel Eq (at p.flag v) (Int 1)) u ≡ record { seen = flag_seen; result = Ok (int_eq n (pos 1)) }
    flag_tells n is =
        ap (λ (a : Evaluated ℤ). a >>> λ x. given (Ok (pos 1)) >>> λ y. given (Ok (relation_holds Eq x y))) (element_comes ps g v k told stands p i p.flag (flag_array p) u)
        ∙ ap (λ (c : Content). onward flag_seen (number_read c) (λ x. given (Ok (pos 1)) >>> λ y. given (Ok (relation_holds Eq x y)))) is

    -- an IF by its condition
    if_runs : (n : ℤ) → u (part p.flag k) ≡ Number n → (place : Place) (r z : Store → Run) → run_if g place (Rel Eq (at p.flag v) (Int 1)) r z u ≡ does did place (numbered 1 flag_seen) (if int_eq n (pos 1) then r else z) u
    if_runs n is place r z = ap (λ (e : Evaluated Bool). on_value place e.seen e.result (λ seen holds. does did place (numbered 1 seen) (if holds then r else z) u)) (flag_tells n is)

    abbrev Any : Manner → Cell → Type 0
    Any m c = Unit {0}

    good_part : (x : List ℕ) → is_array_of p x ≡ true → (n : ℤ) → u (part x k) ≡ Number n → Good Any (value g (at x v) u) n
    good_part x own n is =
        let e = element_comes ps g v k told stands p i x own u in
        record { result = ap (λ (y : Evaluated ℤ). y.result) e ∙ ap number_read is; by = subst (AllSeenBy Any) (sym (ap (λ (y : Evaluated ℤ). y.seen) e)) (tt, (tt, tt)) }

    abbrev sum_right : ExprTree
    sum_right = Add (Var p.scalar) (Add (Mul (at p.high v) (Int 65536)) (at p.low v))

    -- the sum comes to the scalar's value behind the iteration
    sum_comes : (x y a b : ℤ) → u (Scalar p.scalar) ≡ Number x → u (part p.high k) ≡ Number a → u (part p.low k) ≡ Number b → AreJoined x y a b → (value g sum_right u).result ≡ Ok y
    sum_comes x y a b held high low joined =
        let scalar = scalar_comes ps g v k told stands p i u in
        let good_scalar : Good Any (value g (Var p.scalar) u) x = record { result = ap (λ (z : Evaluated ℤ). z.result) scalar ∙ ap number_read held; by = subst (AllSeenBy Any) (sym (ap (λ (z : Evaluated ℤ). z.seen) scalar)) (tt, tt) } in
        let product = good_two Any product_of (value g (at p.high v) u) (value g (Int 65536) u) a (pos 65536) (a *ℤ pos 65536) (good_part p.high (high_array p) a high) (record { result = refl; by = tt }) (ap by_number joined.product) in
        let both = good_two Any sum_of (value g (Mul (at p.high v) (Int 65536)) u) (value g (at p.low v) u) (a *ℤ pos 65536) b (a *ℤ pos 65536 +ℤ b) product (good_part p.low (low_array p) b low) (ap by_number joined.both) in
        let all = good_two Any sum_of (value g (Var p.scalar) u) (value g (Add (Mul (at p.high v) (Int 65536)) (at p.low v)) u) x (a *ℤ pos 65536 +ℤ b) (x +ℤ (a *ℤ pos 65536 +ℤ b)) good_scalar both (ap by_number joined.added) in
        all.result ∙ ap Ok joined.is

    -- a number is stored in the scalar
    pub record RunOfTotal (r : Run) (y : ℤ) (place : Place) : Type 0 where
      pub touched : List Touch
      pub acts : r.acts ≡ act did place touched ∷ []
      pub ending : r.ending ≡ going (put (Scalar p.scalar) (Number y) u)

    total_runs : (right : ExprTree) (y : ℤ) (place : Place) → (value g right u).result ≡ Ok y → is_storable y ≡ true → RunOfTotal (run_assignment g place (Var p.scalar) right u) y place
    total_runs right y place comes small =
        let seen = (value g right u).seen ++ [] in
        let w : Stored = record { cell = Scalar p.scalar; number = y } in
        let is : assigned g (Var p.scalar) right u ≡ record { seen = seen; result = Ok w } =
        ap (λ (r : Result ℤ ℕ). onward (value g right u).seen r (λ n. given (Ok (g.cell p.scalar)) >>> λ c. given (storable n) >>> λ o. given (Ok (record { cell = c; number = o })))) comes
        ∙ ap (λ (c : Cell). having_seen (value g right u).seen (given (Ok c) >>> λ d. given (storable y) >>> λ o. given (Ok (record { cell = d; number = o })))) (stands.own p i)
        ∙ ap (λ (b : Bool). having_seen (value g right u).seen (given (Ok (Scalar p.scalar)) >>> λ d. given (if b then Ok y else Err out_of_range) >>> λ o. given (Ok (record { cell = d; number = o })))) small in
        let runs : run_assignment g place (Var p.scalar) right u ≡ does did place (assignment_touches seen w) nothing_done u =
        ap (λ (e : Evaluated Stored). on_value place e.seen e.result (λ seen w. does did place (assignment_touches seen w) nothing_done u)) is in
        record {
          touched = assignment_touches seen w;
          acts = ap (λ (r : Run). r.acts) runs;
          ending = ap (λ (r : Run). r.ending) runs ∙ ap going (reads_leave seen 1 (write_touch (Scalar p.scalar) (Number y) (number_behind 1 seen) ∷ []) u);
        }

    -- the exit of one scalar
    pub record ExitGoes (m : ℕ) (d : Content) : Type 0 where
      pub behind : Store
      pub ending : (run q (exit v p) m scope u).ending ≡ going behind
      pub total : behind (Scalar p.scalar) ≡ d
      pub kept : (c : Cell) → (Scalar p.scalar ≡ c → ⊥) → behind c ≡ u c
      pub places : (b : Act) → IsIn b (run q (exit v p) m scope u).acts → b.place.turns ≡ turns_of scope

    pub exit_goes : (m : ℕ) (c d : Content) → u (Scalar p.scalar) ≡ c → Adds c (u (part p.high k)) (u (part p.low k)) (u (part p.flag k)) d → ExitGoes m d
    exit_goes m c d held (inl none) =
        let is = if_runs (pos 0) none.flag_is (place_of q m scope) (run_all q (more_stmts (addition v p) no_stmts) (m + 1) scope) (run_all q no_stmts (m + 1 + statements_count (more_stmts (addition v p) no_stmts)) scope) in
        record {
          behind = u;
          ending = ap (λ (r : Run). r.ending) is;
          total = held ∙ sym none.same;
          kept = λ x h. refl;
          places = λ b j. one b (subst (IsIn b) (ap (λ (r : Run). r.acts) is) j);
        }
      where
        one : (b : Act) → IsIn b (act did (place_of q m scope) (numbered 1 flag_seen) ∷ []) → b.place.turns ≡ turns_of scope
        one b (inl e) = ap (λ (a : Act). a.place.turns) e
        one b (inr j) = absurd j
    exit_goes m c d held (inr some) =
        let r = run_all q (more_stmts (addition v p) no_stmts) (m + 1) scope in
        let is = if_runs (pos 1) some.flag_is (place_of q m scope) r (run_all q no_stmts (m + 1 + statements_count (more_stmts (addition v p) no_stmts)) scope) in
        let comes = sum_comes some.x some.y some.a some.b (held ∙ some.was) some.high_is some.low_is (join_sum some.x some.y some.a some.b some.x_small some.y_small some.parts) in
        let total = total_runs sum_right some.y (place_of q (m + 1) scope) comes (storable_by some.y some.y_small) in
        let z = put (Scalar p.scalar) (Number some.y) u in
        let inner : r u ≡ record { acts = act did (place_of q (m + 1) scope) total.touched ∷ []; ending = going z } =
        going_then (run_assignment g (place_of q (m + 1) scope) (Var p.scalar) sum_right u) z nothing_done total.ending ∙ (λ j. record { acts = total.acts j ++ []; ending = going z }) in
        record {
          behind = z;
          ending = ap (λ (x : Run). x.ending) is ∙ ap (λ (x : Run). x.ending) inner;
          total = put_same (Scalar p.scalar) (Number some.y) u (Scalar p.scalar) (cell_itself (Scalar p.scalar)) ∙ sym some.is;
          kept = λ x h. put_other (Scalar p.scalar) (Number some.y) u x (other_cell (Scalar p.scalar) x h);
          places = λ b j. two total.touched b (subst (IsIn b) (ap (λ (x : Run). x.acts) is ∙ ap (λ (x : Run). act did (place_of q m scope) (numbered 1 flag_seen) ∷ x.acts) inner) j);
        }
      where
        two : (ts : List Touch) (b : Act) → IsIn b (act did (place_of q m scope) (numbered 1 flag_seen) ∷ (act did (place_of q (m + 1) scope) ts ∷ [])) → b.place.turns ≡ turns_of scope
        two ts b (inl e) = ap (λ (a : Act). a.place.turns) e
        two ts b (inr (inl e)) = ap (λ (a : Act). a.place.turns) e
        two ts b (inr (inr j)) = absurd j

  -- the exits of some of the scalars, which hold c and shall hold d
  pub record ExitsGo (rest : List Partials) (m : ℕ) (u : Store) (d : Partials → Content) : Type 0 where
    pub behind : Store
    pub ending : (run_all q (exits v rest) m scope u).ending ≡ going behind
    pub totals : (p : Partials) → IsIn p rest → behind (Scalar p.scalar) ≡ d p
    pub kept : (c : Cell) → IsNoTotal rest c → behind c ≡ u c
    pub places : (b : Act) → IsIn b (run_all q (exits v rest) m scope u).acts → b.place.turns ≡ turns_of scope

  -- the exit of one, and then those of others
  module _ (p : Partials) (rest : List Partials) (m : ℕ) (u : Store) (i : IsIn p ps) (c d : Partials → Content) (distinct : AllDistinct (p ∷ rest)) (first : ExitGoes p i u m (d p)) (more : ExitsGo rest (m + 2) first.behind d) where
    next : run_all q (exits v (p ∷ rest)) m scope u ≡ record { acts = (run q (exit v p) m scope u).acts ++ (run_all q (exits v rest) (m + 2) scope first.behind).acts; ending = (run_all q (exits v rest) (m + 2) scope first.behind).ending }
    next = going_then (run q (exit v p) m scope u) first.behind (run_all q (exits v rest) (m + 2) scope) first.ending

    unlike : (a : Partials) → IsIn a rest → Scalar a.scalar ≡ Scalar p.scalar → ⊥
    unlike a j e = both_ways (is_same_text p.scalar a.scalar) (distinct.0 a j).scalar (ap (λ (x : Cell). same_cell (Scalar p.scalar) x) e ∙ cell_itself (Scalar p.scalar))

    exits_more : ExitsGo (p ∷ rest) m u d
    exits_more = record {
      behind = more.behind;
      ending = ap (λ (r : Run). r.ending) next ∙ more.ending;
      totals = totals;
      kept = λ x h. more.kept x (λ a j. h a (inr j)) ∙ first.kept x (h p (inl refl));
      places = λ b j. elim (in_parts b (run q (exit v p) m scope u).acts (run_all q (exits v rest) (m + 2) scope first.behind).acts (subst (IsIn b) (ap (λ (r : Run). r.acts) next) j)) [ inl l ↦ first.places b l | inr l ↦ more.places b l ];
    }
      where
        totals : (a : Partials) → IsIn a (p ∷ rest) → more.behind (Scalar a.scalar) ≡ d a
        totals a (inl e) = subst (λ (b : Partials). more.behind (Scalar b.scalar) ≡ d b) (sym e) (more.kept (Scalar p.scalar) unlike ∙ first.total)
        totals a (inr j) = more.totals a j

  pub exits_go : (rest : List Partials) → AllDistinct rest → ((p : Partials) → IsIn p rest → IsIn p ps) → (m : ℕ) (u : Store) (c d : Partials → Content)
      → ((p : Partials) → IsIn p rest → u (Scalar p.scalar) ≡ c p) → ((p : Partials) → IsIn p rest → Adds (c p) (u (part p.high k)) (u (part p.low k)) (u (part p.flag k)) (d p)) → ExitsGo rest m u d
  exits_go [] distinct all m u c d held adds = record { behind = u; ending = refl; totals = λ p i. absurd i; kept = λ x h. refl; places = λ b i. absurd i }
  exits_go (p ∷ rest) distinct all m u c d held adds =
      let i = all p (inl refl) in
      let first = exit_goes p i u m (c p) (d p) (held p (inl refl)) (adds p (inl refl)) in
      let stays = λ (x : List ℕ). first.kept (part x k) (λ e. no_part x e) in
      exits_more p rest m u i c d distinct first
      (exits_go rest distinct.1 (λ a j. all a (inr j)) (m + 2) first.behind c d
      (λ a j. first.kept (Scalar a.scalar) (λ e. both_ways (is_same_text p.scalar a.scalar) (distinct.0 a j).scalar (ap (λ (x : Cell). same_cell (Scalar p.scalar) x) (sym e) ∙ cell_itself (Scalar p.scalar))) ∙ held a (inr j))
      (λ a j. adds_same (c a) (u (part a.high k)) (u (part a.low k)) (u (part a.flag k)) (d a) (first.behind (part a.high k)) (first.behind (part a.low k)) (first.behind (part a.flag k)) (d a) (stays a.high) (stays a.low) (stays a.flag) refl (adds a (inr j))))
    where
      no_part : (x : List ℕ) → Scalar p.scalar ≡ part x k → ⊥
      no_part x e = both_ways (same_cell (Scalar p.scalar) (part x k)) refl (ap (same_cell (Scalar p.scalar)) (sym e) ∙ cell_itself (Scalar p.scalar))
