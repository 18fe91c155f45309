-- The iterations that a run has come to, loop by loop, the outermost first.
use Rattle.std.proofs.Common.{◌≡◌, ℕ, ◌-◌, ℤ, pos, ◌+ℤ◌, ◌*ℤ◌, List, [], ◌∷◌, ◌++◌, map, Bool, true, false, ◌||◌, Some, None, Ok, Err, if◌then◌else◌, refl, sym, ap, ◌∙◌, subst}
use Rattle.std.proofs.lemmas.List.{map-append}
use Rattle.ped_flow.specs.ped_base.specs.Lists.{is_same_text, is_among}
use Rattle.ped_flow.specs.ped_tree.specs.Tree.{Head, StmtTrees, Do, ProgramTree}
use Rattle.ped_flow.specs.ped_tree.specs.Nests.{Loop, indices_of}
use Rattle.ped_flow.specs.ped_tree.specs.Numbering.{statement_with}
use Rattle.ped_eval.specs.ped_store.specs.Stores.{Store, out_of_range}
use Rattle.ped_eval.specs.ped_store.specs.Acts.{Turn}
use Rattle.ped_graph.specs.ped_symbols.specs.RightUses.RightLoops.{step_is_right}
use Rattle.ped_eval.specs.Scopes.{Scope, Names, turns_of, names_in, index_value}
use Rattle.ped_eval.specs.Evaluation.{◌>>>◌, given}
use Rattle.ped_eval.specs.Values.{value}
use Rattle.ped_eval.specs.Loops.{Limits, limits, in_bounds, is_bound, increment, entered_with, frame}
use Rattle.ped_eval.specs.Outcomes.{setting_of}
use Rattle.ped_flow.specs.ped_affine.specs.Ranges.{Setting, is_steady}
use Rattle.ped_graph.specs.Dependences.{setting_in}
use Rattle.ped_laws.specs.Covering.Nested.{IsInNest}
use Rattle.ped_laws.specs.Covering.Together.{AreDistinct}
use Rattle.ped_laws.proofs.CoveringLaws.Comings.{came, ok_one}
use Rattle.ped_laws.proofs.CoveringLaws.Nesting.{one_deeper}
use Rattle.ped_laws.proofs.CoveringLaws.Texts.{text_is, text_itself}
use Rattle.ped_laws.specs.Conflicts.Reaching.{Reached}
use Rattle.ped_laws.proofs.ConflictLaws.PossibleNames.{AssignWithin}
use Rattle.ped_laws.proofs.ConflictLaws.PossibleOwn.{not_so, last_within, constant_name, steady_value}

-- the initial value of a DO is that of its first bound
bound_itself : (m n : ℤ) → in_bounds m ≡ Ok n → m ≡ n
bound_itself m n h = go (is_bound m) h
  where
    go : (b : Bool) → (if b then Ok m else Err out_of_range) ≡ Ok n → m ≡ n
    go true e = ok_one m n e
    go false e = absurd cc

limits_first : (a b : ℤ) (l : Limits) → (given (Ok (record { first = a; last = b }))).result ≡ Ok l → a ≡ l.first
limits_first a b l h = ap (λ (x : Limits). x.first) (ok_one (record { first = a; last = b }) l h)

begins : (g : Names) (h : Head) (u : Store) (bounds : Limits) → (limits g h u).result ≡ Ok bounds → (value g h.first u).result ≡ Ok bounds.first
begins g h u bounds e =
    let one = came (value g h.first u).seen (value g h.first u).result (λ a. given (in_bounds a) >>> λ m. value g h.last u >>> λ b. given (in_bounds b) >>> λ n. given (Ok (record { first = m; last = n }))) bounds e in
    let two = came [] (in_bounds one.0) (λ m. value g h.last u >>> λ b. given (in_bounds b) >>> λ n. given (Ok (record { first = m; last = n }))) bounds one.2 in
    let three = came (value g h.last u).seen (value g h.last u).result (λ b. given (in_bounds b) >>> λ n. given (Ok (record { first = two.0; last = n }))) bounds two.2 in
    let four = came [] (in_bounds three.0) (λ n. given (Ok (record { first = two.0; last = n }))) bounds three.2 in
    one.1 ∙ ap Ok (bound_itself one.0 two.0 two.1 ∙ limits_first two.0 four.0 bounds four.2)

module _ (t : ProgramTree) (o : ℕ) (first : Store) where
  -- the iteration is one of this loop: its value is some steps from an initial value, which is the same for all entries where it is steady
  pub record IsTurn (l : Loop) (i : Turn) : Type 0 where
    pub statement : i.statement ≡ l.number
    pub body : StmtTrees
    pub stands : statement_with l.number t ≡ Some (Do l.head body)
    pub step : step_is_right (setting_of t).constants l.head.step ≡ true
    pub initial : ℤ
    pub steps : ℕ
    pub stood : i.value ≡ initial +ℤ pos steps *ℤ increment (setting_of t).constants l.head
    pub steady : is_steady (setting_in t o) l.head.first ≡ true → (value (names_in (setting_of t) []) l.head.first first).result ≡ Ok initial

  -- the iterations are of these loops, one of each
  abbrev pub AreTurns : List Loop → List Turn → Type 0
  AreTurns (l ∷ ls) (i ∷ is) = IsTurn l i × AreTurns ls is
  AreTurns [] [] = Unit {0}
  AreTurns [] (i ∷ is) = ⊥
  AreTurns (l ∷ ls) [] = ⊥

  turns_more : (ls : List Loop) (is : List Turn) (l : Loop) (i : Turn) → AreTurns ls is → IsTurn l i → AreTurns (ls ++ l ∷ []) (is ++ i ∷ [])
  turns_more [] [] l i h k = (k, tt)
  turns_more [] (j ∷ is) l i h k = absurd h
  turns_more (m ∷ ls) [] l i h k = absurd h
  turns_more (m ∷ ls) (j ∷ is) l i h k = (h.0, turns_more ls is l i h.1 k)

  pub turns_reached : (nest : List Loop) (scope : Scope) → AssignWithin t o nest → Reached t (setting_in t o) first nest scope → AreTurns nest (turns_of scope)
  turns_reached nest [] within reached = subst (λ (ls : List Loop). AreTurns ls []) (sym reached) tt
  turns_reached nest (f ∷ outer) within reached =
      let around : List Loop = reached.0 in
      let l : Loop = reached.1 in
      let e = reached.3 in
      let parts = last_within t o around l (subst (λ (ls : List Loop). AssignWithin t o ls) reached.2 within) in
      let g = names_in (setting_of t) outer in
      let turn : IsTurn l (frame (entered_with (setting_of t) l.number l.head e.body e.seen e.bounds) e.turn).turn = record {
        statement = refl;
        body = e.body;
        stands = e.stands;
        step = e.step;
        initial = e.bounds.first;
        steps = e.turn - 1;
        stood = refl;
        steady = λ k.
            ap (λ v. v.result) (sym (steady_value (setting_in t o) g (names_in (setting_of t) []) e.store first refl (λ x other. constant_name t o first x other around outer e.store parts.0 reached.4 e.within) l.head.first k))
            ∙ begins g l.head e.store e.bounds e.comes;
      } in
      subst (λ (ls : List Loop). AreTurns ls (turns_of (f ∷ outer))) (sym reached.2)
      (turns_more around (turns_of outer) l f.turn (turns_reached around outer parts.0 reached.4) (subst (λ (z : Turn). IsTurn l z) (sym (ap (λ h. h.turn) e.is)) turn))

  -- each loop stands at a value in its range
  pub in_nest : (nest : List Loop) (scope : Scope) → Reached t (setting_in t o) first nest scope → IsInNest (setting_in t o) (setting_of t) nest scope
  in_nest nest [] reached = subst (λ (ls : List Loop). IsInNest (setting_in t o) (setting_of t) ls []) (sym reached) (record { iterations = tt; variables = λ x. tt })
  in_nest nest (f ∷ outer) reached =
      let around : List Loop = reached.0 in
      let l : Loop = reached.1 in
      let e = reached.3 in
      subst (λ (ls : List Loop). IsInNest (setting_in t o) (setting_of t) ls (f ∷ outer)) (sym reached.2)
      (subst (λ z. IsInNest (setting_in t o) (setting_of t) (around ++ l ∷ []) (z ∷ outer)) (sym e.is)
      (one_deeper (setting_in t o) (setting_of t) around outer e.store l.number l.head e.body e.seen e.bounds e.turn refl e.within.storable (in_nest around outer reached.4) e.other e.step e.comes e.from e.to))

none_of : (a b : Bool) → (a || b) ≡ false → (a ≡ false) × (b ≡ false)
none_of true b k = absurd cc
none_of false b k = (refl, k)

texts_turn : (x y : List ℕ) → is_same_text x y ≡ false → is_same_text y x ≡ false
texts_turn x y h = not_so (is_same_text y x) (is_same_text x y) (λ e. ap (is_same_text x) (text_is y x e) ∙ text_itself x) h

among_none : (y v : List ℕ) (xs : List (List ℕ)) → is_among y xs ≡ false → is_same_text y v ≡ false → is_among y (xs ++ v ∷ []) ≡ false
among_none y v [] p q = ap (λ (b : Bool). b || false) q
among_none y v (x ∷ xs) p q = let r = none_of (is_same_text y x) (is_among y xs) p in ap (λ (b : Bool). b || is_among y (xs ++ v ∷ [])) r.0 ∙ among_none y v xs r.1 q

distinct_more : (xs : List (List ℕ)) (y : List ℕ) → AreDistinct xs → is_among y xs ≡ false → AreDistinct (xs ++ y ∷ [])
distinct_more [] y d h = (refl, tt)
distinct_more (x ∷ xs) y d h =
    let r = none_of (is_same_text y x) (is_among y xs) h in
    (among_none x y xs d.0 (texts_turn y x r.0), distinct_more xs y d.1 r.1)

indices_more : (ls : List Loop) (l : Loop) → indices_of (ls ++ l ∷ []) ≡ indices_of ls ++ l.head.variable ∷ []
indices_more [] l = refl
indices_more (m ∷ ls) l = ap (λ xs. m.head.variable ∷ xs) (indices_more ls l)

module _ (t : ProgramTree) (s : Setting) (first : Store) where
  -- a name that the place doesn't tell is the variable of none of the loops
  untold : (nest : List Loop) (scope : Scope) (y : List ℕ) → Reached t s first nest scope → index_value scope y ≡ None → is_among y (indices_of nest) ≡ false
  untold nest [] y reached h = ap (λ ls. is_among y (indices_of ls)) reached
  untold nest (f ∷ outer) y reached h = by (is_same_text y f.variable) refl (untold reached.0 outer y reached.4) h
    where
      by : (b : Bool) → is_same_text y f.variable ≡ b → (index_value outer y ≡ None → is_among y (indices_of reached.0) ≡ false) → (if b then Some f.turn.value else index_value outer y) ≡ None → is_among y (indices_of nest) ≡ false
      by true e rest k = absurd cc
      by false e rest k =
          let around : List Loop = reached.0 in
          let l : Loop = reached.1 in
          let entered = reached.3 in
          ap (λ ls. is_among y (indices_of ls)) reached.2
          ∙ (ap (is_among y) (indices_more around l) ∙ among_none y l.head.variable (indices_of around) (rest k) (ap (λ z. is_same_text y z.variable) (sym entered.is) ∙ e))

  -- no two loops have one variable
  pub distinct : (nest : List Loop) (scope : Scope) → Reached t s first nest scope → AreDistinct (indices_of nest)
  distinct nest [] reached = subst (λ (ls : List Loop). AreDistinct (indices_of ls)) (sym reached) tt
  distinct nest (f ∷ outer) reached =
      let around : List Loop = reached.0 in
      let l : Loop = reached.1 in
      subst (λ (ls : List Loop). AreDistinct (indices_of ls)) (sym reached.2)
      (subst (λ (xs : List (List ℕ)). AreDistinct xs) (sym (indices_more around l)) (distinct_more (indices_of around) l.head.variable (distinct around outer reached.4) (untold around outer l.head.variable reached.4 reached.3.other)))

  -- the place tells the values of the loops' variables
  pub told : (nest : List Loop) (scope : Scope) → Reached t s first nest scope → map (index_value scope) (indices_of nest) ≡ map (λ i. Some i.value) (turns_of scope)
  told nest [] reached = ap (λ ls. map (index_value []) (indices_of ls)) reached
  told nest (f ∷ outer) reached =
      let around : List Loop = reached.0 in
      let l : Loop = reached.1 in
      let entered = reached.3 in
      let variable : f.variable ≡ l.head.variable = ap (λ z. z.variable) entered.is in
      let other : is_among f.variable (indices_of around) ≡ false = ap (λ z. is_among z (indices_of around)) variable ∙ untold around outer l.head.variable reached.4 entered.other in
      ap (λ ls. map (index_value (f ∷ outer)) (indices_of ls)) reached.2
      ∙ (ap (map (index_value (f ∷ outer))) (indices_more around l ∙ ap (λ x. indices_of around ++ x ∷ []) (sym variable))
      ∙ (one_more (indices_of around) (turns_of outer) (outside (indices_of around) other ∙ told around outer reached.4)))
    where
      outside : (xs : List (List ℕ)) → is_among f.variable xs ≡ false → map (index_value (f ∷ outer)) xs ≡ map (index_value outer) xs
      outside [] h = refl
      outside (x ∷ xs) h =
          let r = none_of (is_same_text f.variable x) (is_among f.variable xs) h in
          let unlike = texts_turn f.variable x r.0 in
          λ i. (if unlike i then Some f.turn.value else index_value outer x) ∷ outside xs r.1 i

      one_more : (xs : List (List ℕ)) (is : List Turn) → map (index_value (f ∷ outer)) xs ≡ map (λ i. Some i.value) is → map (index_value (f ∷ outer)) (xs ++ f.variable ∷ []) ≡ map (λ i. Some i.value) (is ++ f.turn ∷ [])
      one_more xs is h =
          map-append (index_value (f ∷ outer)) xs (f.variable ∷ [])
          ∙ ((λ i. h i ++ (if text_itself f.variable i then Some f.turn.value else index_value outer f.variable) ∷ [])
          ∙ sym (map-append (λ (z : Turn). Some z.value) is (f.turn ∷ [])))
