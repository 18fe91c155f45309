-- The values of the unknowns of one side: the loops' variables first, and then the other variables.
use Rattle.std.proofs.Common.{◌≡◌, ℕ, suc, ◌+◌, ◌-◌, ◌≤◌, List, [], ◌∷◌, ◌++◌, map, take, drop, drop-drop, length, filter, cond, Bool, true, false, not, ◌&&◌, ◌||◌, ◌==◌, refl, sym, ap, ◌∙◌, subst, arith, ℤ, pos, if◌then◌else◌}
use Rattle.std.proofs.lemmas.Bool.{and_parts, or_left, or_right}
use Rattle.ped_flow.specs.ped_base.specs.Lists.{is_same_text, is_among}
use Rattle.ped_flow.specs.ped_tree.specs.Tree.{ExprTree}
use Rattle.ped_flow.specs.ped_tree.specs.Nests.{Loop, indices_of, common_nest}
use Rattle.ped_flow.specs.ped_affine.specs.Ranges.{Setting}
use Rattle.ped_flow.specs.ped_affine.specs.AffineForms.{form_variables}
use Rattle.ped_flow.specs.ped_affine.specs.PairViews.{Site, depths_of, is_other, other_variables}
use Rattle.ped_laws.specs.Covering.Weights.{first_values}
use Rattle.ped_laws.specs.Covering.Together.{AreDistinct, side_values, AgreeOnOthers}
use Rattle.ped_laws.proofs.CoveringLaws.Texts.{text_is, text_itself}

or_false : (a b : Bool) → a ≡ false → b ≡ false → (a || b) ≡ false
or_false true b h k = absurd cc
or_false false b h k = k

true_false : (b : Bool) → b ≡ true → b ≡ false → ⊥
true_false true h k = absurd cc
true_false false h k = absurd cc

-- distinct names all count
pub loops_count : (values : List ℕ → ℤ) (before xs more : List (List ℕ)) → AreDistinct xs → ((x : List ℕ) → is_among x xs ≡ true → is_among x before ≡ false) → take (length xs) (first_values values before (xs ++ more)) ≡ map values xs
loops_count values before [] more d h = refl
loops_count values before (x ∷ xs) more d h = λ i. first i ∷ loops_count values (x ∷ before) xs more d.1 later i
  where
    first : (if is_among x before then pos 0 else values x) ≡ values x
    first = ap (λ (b : Bool). if b then pos 0 else values x) (h x (or_left (is_same_text x x) (is_among x xs) (text_itself x)))

    other : (y : List ℕ) → is_among y xs ≡ true → (b : Bool) → is_same_text y x ≡ b → b ≡ false
    other y i true e = absurd (true_false (is_among x xs) (subst (λ (z : List ℕ). is_among z xs ≡ true) (text_is y x e) i) d.0)
    other y i false e = refl

    later : (y : List ℕ) → is_among y xs ≡ true → is_among y (x ∷ before) ≡ false
    later y i = or_false (is_same_text y x) (is_among y before) (other y i (is_same_text y x) refl) (h y (or_right (is_same_text y x) (is_among y xs) i))

-- the names behind which others are counted
abbrev seen_behind : List (List ℕ) → List (List ℕ) → List (List ℕ)
seen_behind before [] = before
seen_behind before (x ∷ xs) = seen_behind (x ∷ before) xs

others_behind : (values : List ℕ → ℤ) (before xs more : List (List ℕ)) → drop (length xs) (first_values values before (xs ++ more)) ≡ first_values values (seen_behind before xs) more
others_behind values before [] more = refl
others_behind values before (x ∷ xs) more = others_behind values (x ∷ before) xs more

not_seen : (y : List ℕ) (before xs : List (List ℕ)) → is_among y before ≡ false → is_among y xs ≡ false → is_among y (seen_behind before xs) ≡ false
not_seen y before [] h k = h
not_seen y before (x ∷ xs) h k = not_seen y (x ∷ before) xs (or_false (is_same_text y x) (is_among y before) (first (is_same_text y x) (is_among y xs) k) h) (rest (is_same_text y x) (is_among y xs) k)
  where
    first : (a b : Bool) → (a || b) ≡ false → a ≡ false
    first true b q = absurd cc
    first false b q = refl

    rest : (a b : Bool) → (a || b) ≡ false → b ≡ false
    rest true b q = absurd cc
    rest false b q = q

others_agree : (from to : List ℕ → ℤ) (before behind xs : List (List ℕ)) → ((y : List ℕ) → is_among y xs ≡ true → (is_among y before ≡ is_among y behind) × (from y ≡ to y)) → first_values from before xs ≡ first_values to behind xs
others_agree from to before behind [] h = refl
others_agree from to before behind (x ∷ xs) h = λ i. first i ∷ others_agree from to (x ∷ before) (x ∷ behind) xs later i
  where
    here : (is_among x before ≡ is_among x behind) × (from x ≡ to x)
    here = h x (or_left (is_same_text x x) (is_among x xs) (text_itself x))

    first : (if is_among x before then pos 0 else from x) ≡ (if is_among x behind then pos 0 else to x)
    first = λ i. if here.0 i then pos 0 else here.1 i

    later : (y : List ℕ) → is_among y xs ≡ true → (is_among y (x ∷ before) ≡ is_among y (x ∷ behind)) × (from y ≡ to y)
    later y k = let w = h y (or_right (is_same_text y x) (is_among y xs) k) in (ap (λ (b : Bool). is_same_text y x || b) w.0, w.1)

-- a name that is kept passes the test
passes : (test : List ℕ → Bool) (y : List ℕ) (xs : List (List ℕ)) → is_among y (filter test xs) ≡ true → test y ≡ true
passes test y [] h = absurd cc
passes test y (x ∷ xs) h = go (test x) refl (passes test y xs) h
  where
    go : (b : Bool) → test x ≡ b → (is_among y (filter test xs) ≡ true → test y ≡ true) → is_among y (cond b (x ∷ filter test xs) (filter test xs)) ≡ true → test y ≡ true
    go false e more k = more k
    go true e more k = this (is_same_text y x) refl k
      where
        this : (c : Bool) → is_same_text y x ≡ c → (c || is_among y (filter test xs)) ≡ true → test y ≡ true
        this true q k = ap test (text_is y x q) ∙ e
        this false q k = more k

common_first : (ls ms : List Loop) → length (common_nest ls ms) ≤ length ls
common_first [] ms = omega arith
common_first (l ∷ ls) [] = omega arith
common_first (l ∷ ls) (m ∷ ms) = let h = common_first ls ms in go (l.number == m.number) h
  where
    go : (b : Bool) → length (common_nest ls ms) ≤ length ls → length (if b then l ∷ common_nest ls ms else []) ≤ length (l ∷ ls)
    go true h = omega arith
    go false h = omega arith

common_second : (ls ms : List Loop) → length (common_nest ls ms) ≤ length ms
common_second [] ms = omega arith
common_second (l ∷ ls) [] = omega arith
common_second (l ∷ ls) (m ∷ ms) = let h = common_second ls ms in go (l.number == m.number) h
  where
    go : (b : Bool) → length (common_nest ls ms) ≤ length ms → length (if b then l ∷ common_nest ls ms else []) ≤ length (m ∷ ms)
    go true h = omega arith
    go false h = omega arith

as_many : (nest : List Loop) → length (indices_of nest) ≡ length nest
as_many [] = refl
as_many (l ∷ nest) = ap suc (as_many nest)

dropped : (c : ℕ) (nest : List Loop) (values : List ℕ → ℤ) (others : List (List ℕ)) → c ≤ length nest → drop (length nest - c) (drop c (first_values values [] (indices_of nest ++ others))) ≡ first_values values (seen_behind [] (indices_of nest)) others
dropped c nest values others l =
    let n : c + (length nest - c) ≡ length (indices_of nest) = let h = as_many nest in omega arith in
    drop-drop (length nest - c) c (first_values values [] (indices_of nest ++ others))
    ∙ ap (λ (k : ℕ). drop k (first_values values [] (indices_of nest ++ others))) n
    ∙ others_behind values [] (indices_of nest) others

not_true : (b : Bool) → not b ≡ true → b ≡ false
not_true true h = absurd cc
not_true false h = refl

pub agree : (s : Setting) (source sink : Site) (e g : ExprTree) (from to : List ℕ → ℤ) → let others = other_variables s source sink e g in ((x : List ℕ) → is_among x others ≡ true → from x ≡ to x) → AgreeOnOthers (depths_of source sink) (side_values from source others) (side_values to sink others)
agree s source sink e g from to same =
    let others : List (List ℕ) = other_variables s source sink e g in
    let c : ℕ = length (common_nest source.nest sink.nest) in
    dropped c source.nest from others (common_first source.nest sink.nest)
    ∙ others_agree from to (seen_behind [] (indices_of source.nest)) (seen_behind [] (indices_of sink.nest)) others (λ y h. (unseen y h, same y h))
    ∙ sym (dropped c sink.nest to others (common_second source.nest sink.nest))
  where
    unseen : (y : List ℕ) → is_among y (other_variables s source sink e g) ≡ true → is_among y (seen_behind [] (indices_of source.nest)) ≡ is_among y (seen_behind [] (indices_of sink.nest))
    unseen y h =
        let p = passes (is_other s source sink) y (form_variables e ++ form_variables g) h in
        let q = and_parts (not (is_among y (indices_of source.nest)) && not (is_among y (indices_of sink.nest))) (not (is_among y s.assigned)) p in
        let r = and_parts (not (is_among y (indices_of source.nest))) (not (is_among y (indices_of sink.nest))) q.0 in
        not_seen y [] (indices_of source.nest) refl (not_true (is_among y (indices_of source.nest)) r.0)
        ∙ sym (not_seen y [] (indices_of sink.nest) refl (not_true (is_among y (indices_of sink.nest)) r.1))

pub loops_first : (values : List ℕ → ℤ) (side : Site) (others : List (List ℕ)) → AreDistinct (indices_of side.nest) → take (length (indices_of side.nest)) (side_values values side others) ≡ map values (indices_of side.nest)
loops_first values side others d = loops_count values [] (indices_of side.nest) others d (λ x h. refl)
