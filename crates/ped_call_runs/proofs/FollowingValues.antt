-- Evaluations that come to each value that others come to: those of expressions in which other names stand.
use Rattle.std.proofs.Common.{◌≡◌, ℕ, suc, ℤ, List, [], ◌∷◌, ◌++◌, map, length, Bool, true, false, ◌&&◌, ◌||◌, not, Result, Ok, Err, refl, sym, ap, ◌∙◌, subst, ◌⊎◌, inl, inr, append_assoc, if◌then◌else◌}
use Rattle.std.specs.List.{flat_map, join_with_byte}
use Rattle.std.specs.Fmt.{signed_decimal}
use Rattle.ped_base.specs.Arithmetic.Arithmetic.{sum_of, difference_of, negation_of, product_of, quotient_of, power_of}
use Rattle.ped_tree.specs.Constants.ConstantExpressions.{intrinsic_result}
use Rattle.ped_tree.specs.NamesIn.{expr_names, exprs_names, cond_names, item_names}
use Rattle.ped_tree.specs.Tree.{ExprTree, ExprTrees, Int, Var, Element, Neg, Add, Sub, Mul, Div, Pow, Call, no_exprs, more_exprs, CondTree, Rel, Not, And, Or, ItemTree, Value, Text, Head}
use Rattle.ped_steps.specs.ped_symbols.specs.Uses.{expr_count}
use Rattle.ped_calls.specs.ped_units.specs.Expanding.{Meanings, meaning, name_meant, replaced, all_replaced, cond_replaced, item_replaced, head_replaced}
use Rattle.ped_calls.specs.ped_units.specs.Linking.{assigned_left}
use Rattle.ped_steps.specs.ped_store.specs.Cells as cells
use Rattle.ped_steps.specs.ped_store.specs.Cells.{Cell}
use Rattle.ped_steps.specs.ped_store.specs.Stores.{Undefined, Store, undefined_read, outside_bounds, storable}
use Rattle.ped_steps.specs.ped_store.specs.Storage.{is_within}
use Rattle.ped_steps.specs.ped_eval.specs.Scopes.{Names}
use Rattle.ped_steps.specs.ped_eval.specs.Evaluation.{Seen, cell_seen, Evaluated, onward, ◌>>>◌, given, by_number, read_cell}
use Rattle.ped_steps.specs.ped_eval.specs.Values.{of_intrinsic, is_rank, element_cell, value, values, relation_holds, truth, target}
use Rattle.ped_steps.specs.ped_eval.specs.Statements.{Stored, assigned, item_text, item_texts, printed_line}
use Rattle.ped_steps.specs.ped_eval.specs.Loops.{in_bounds, limits}
use Rattle.ped_steps.specs.ped_laws.proofs.CoveringLaws.Comings.{came, ok_one}
use Rattle.ped_call_runs.specs.UnitRuns.{is_own_cell}
use Rattle.ped_call_runs.proofs.EachNames.{Each, each_front, each_behind}
use Rattle.ped_call_runs.proofs.EachElements.{EachElement, AllElements, CondElements, ItemElements, ItemsElements}

-- the same (plain words)
abbrev pub itself : {A : Type 0} → A → A
itself x = x

-- an evaluation faults where it reads a variable of a CALL's own that is undefined
pub record SeesOwn (n : ℕ) (seen : List Seen) : Type 0 where
  pub fault : n ≡ undefined_read
  pub front : List Seen
  pub cell : Cell
  pub call : ℕ
  pub own : is_own_cell call cell ≡ true
  pub last : seen ≡ front ++ cell_seen cell Undefined ∷ []

-- where the first result is a value, the second is what a function makes of it; where it is a fault, so is the second, but for a read of an undefined variable of a CALL's own
abbrev pub FollowsBy : {A X : Type 0} → (A → X) → List Seen → Result A ℕ → Result X ℕ → Type 0
FollowsBy f seen (Ok v) r = r ≡ Ok (f v)
FollowsBy f seen (Err n) r = SeesOwn n seen ⊎ (r ≡ Err n)

-- the same of evaluations
abbrev pub Follows : {A X : Type 0} → (A → X) → Evaluated A → Evaluated X → Type 0
Follows {A} {X} f a b = FollowsBy f a.seen a.result b.result

pub same_follows : {A : Type 0} (seen : List Seen) (r z : Result A ℕ) → z ≡ r → FollowsBy itself seen r z
same_follows seen (Ok v) z e = e
same_follows seen (Err n) z e = inr e

-- an evaluation follows itself
pub alike : {A : Type 0} (a : Evaluated A) → Follows itself a a
alike a = same_follows a.seen a.result a.result refl

-- the value, and the fault
pub follows_ok : {A X : Type 0} (f : A → X) (a : Evaluated A) (b : Evaluated X) → Follows f a b → (v : A) → a.result ≡ Ok v → b.result ≡ Ok (f v)
follows_ok {A} {X} f a b h v e = subst (λ (r : Result A ℕ). FollowsBy f a.seen r b.result) e h

pub follows_err : {A X : Type 0} (f : A → X) (a : Evaluated A) (b : Evaluated X) → Follows f a b → (n : ℕ) → a.result ≡ Err n → SeesOwn n a.seen ⊎ (b.result ≡ Err n)
follows_err {A} {X} f a b h n e = subst (λ (r : Result A ℕ). FollowsBy f a.seen r b.result) e h

-- what was read before makes no difference
sees_behind : (n : ℕ) (front seen : List Seen) → SeesOwn n seen → SeesOwn n (front ++ seen)
sees_behind n front seen h = record {
  fault = h.fault;
  front = front ++ h.front;
  cell = h.cell;
  call = h.call;
  own = h.own;
  last = ap (λ (xs : List Seen). front ++ xs) h.last ∙ sym (append_assoc front h.front (cell_seen h.cell Undefined ∷ []));
}

seen_before : {A X : Type 0} (f : A → X) (front seen : List Seen) (r : Result A ℕ) (z : Result X ℕ) → FollowsBy f seen r z → FollowsBy f (front ++ seen) r z
seen_before f front seen (Ok v) z h = h
seen_before f front seen (Err n) z (inl own) = inl (sees_behind n front seen own)
seen_before f front seen (Err n) z (inr e) = inr e

-- what follows a value that the first evaluation comes to
pub value_then : {A B X Y : Type 0} (f : A → X) (h : B → Y) (a : Evaluated A) (b : Evaluated X) (next : A → Evaluated B) (other : X → Evaluated Y)
    → Follows f a b → ((u : A) → a.result ≡ Ok u → Follows h (next u) (other (f u))) → Follows h (a >>> next) (b >>> other)
value_then {A} {B} {X} {Y} f h a b next other first more = go a.result refl first
  where
    go : (r : Result A ℕ) → a.result ≡ r → FollowsBy f a.seen r b.result → FollowsBy h (onward a.seen r next).seen (onward a.seen r next).result (onward b.seen b.result other).result
    go (Ok u) is e =
        subst (λ (z : Result X ℕ). FollowsBy h (a.seen ++ (next u).seen) (next u).result (onward b.seen z other).result) (sym e)
        (seen_before h a.seen (next u).seen (next u).result (other (f u)).result (more u is))
    go (Err n) is (inl own) = inl own
    go (Err n) is (inr e) = inr (ap (λ (z : Result X ℕ). (onward b.seen z other).result) e)

pub then_follows : {A B X Y : Type 0} (f : A → X) (h : B → Y) (a : Evaluated A) (b : Evaluated X) (next : A → Evaluated B) (other : X → Evaluated Y)
    → Follows f a b → ((u : A) → Follows h (next u) (other (f u))) → Follows h (a >>> next) (b >>> other)
then_follows f h a b next other first more = value_then f h a b next other first (λ u e. more u)

-- operations on one value and on two
pub one_follows : {A B : Type 0} (f : A → Result B ℕ) (a b : Evaluated A) → Follows itself a b → Follows itself (a >>> λ u. given (f u)) (b >>> λ u. given (f u))
one_follows f a b h = then_follows itself itself a b (λ u. given (f u)) (λ u. given (f u)) h (λ u. alike (given (f u)))

pub two_follow : {A B C : Type 0} (f : A → B → Result C ℕ) (a a_other : Evaluated A) (b b_other : Evaluated B) → Follows itself a a_other → Follows itself b b_other
    → Follows itself (a >>> λ u. b >>> λ v. given (f u v)) (a_other >>> λ u. b_other >>> λ v. given (f u v))
two_follow f a a_other b b_other h k = then_follows itself itself a a_other (λ u. b >>> λ v. given (f u v)) (λ u. b_other >>> λ v. given (f u v)) h (λ u. one_follows (f u) b b_other k)

-- a name that is read: what stands for it on both sides has the same values
pub record ReadsAlike (g other : Names) (s w : Store) (m k : Meanings) (x : List ℕ) : Type 0 where
  pub alone : Follows itself (value g (meaning m x) s) (value other (meaning k x) w)

-- the same of a name with subscripts
pub record ElementAlike (g other : Names) (s w : Store) (m k : Meanings) (x : List ℕ) : Type 0 where
  pub element : (js : List ℤ) → Follows itself (given (element_cell g (name_meant m x) js) >>> read_cell s) (given (element_cell other (name_meant k x) js) >>> read_cell w)

-- each value that the evaluation comes to is such
abbrev pub ComesTo : {A : Type 0} → (A → Type 0) → Evaluated A → Type 0
ComesTo {A} P a = (v : A) → a.result ≡ Ok v → P v

pub then_comes : {A B : Type 0} (P : B → Type 0) (a : Evaluated A) (next : A → Evaluated B) → ((u : A) → ComesTo P (next u)) → ComesTo P (a >>> next)
then_comes P a next more v e = let p = came a.seen a.result next v e in more p.0 v p.2

-- where an array can't have so many subscripts, there is no element
no_rank : (g : Names) (x : List ℕ) (js : List ℤ) → is_rank (length js) ≡ false → element_cell g x js ≡ Err outside_bounds
no_rank g x js e = ap (λ (t : Bool). if t && is_within (g.bounds x) js then Ok (cells.Element x js) else Err outside_bounds) e

-- as many values as expressions
values_length : (g : Names) (es : ExprTrees) (s : Store) (js : List ℤ) → (values g es s).result ≡ Ok js → length js ≡ expr_count es
values_length g no_exprs s js e = ap length (sym (ok_one [] js e))
values_length g (more_exprs a rest) s js e =
    let one = came (value g a s).seen (value g a s).result (λ u. values g rest s >>> λ us. given (Ok (u ∷ us))) js e in
    let others = came (values g rest s).seen (values g rest s).result (λ us. given (Ok (one.0 ∷ us))) js one.2 in
    ap length (sym (ok_one (one.0 ∷ others.0) js others.2)) ∙ ap suc (values_length g rest s others.0 others.1)

as_many : (m : Meanings) (es : ExprTrees) → expr_count (all_replaced m es) ≡ expr_count es
as_many m no_exprs = refl
as_many m (more_exprs e rest) = ap suc (as_many m rest)

-- a name that is assigned: what stands for it on both sides is a cell that may be written and the renamed cell
pub record StoresAlike (f : Cell → Cell) (may : Cell → Bool) (g other : Names) (s w : Store) (m k : Meanings) (x : List ℕ) : Type 0 where
  pub alone : Follows f (target g (meaning m x) s) (target other (meaning k x) w)
  pub alone_may : ComesTo (λ c. may c ≡ true) (target g (meaning m x) s)
  pub element : (js : List ℤ) → Follows f (given (element_cell g (name_meant m x) js)) (given (element_cell other (name_meant k x) js))
  pub element_may : (js : List ℤ) → ComesTo (λ c. may c ≡ true) (given (element_cell g (name_meant m x) js))

-- a cell with its number, in the renamed cell
abbrev pub stored_as : (Cell → Cell) → Stored → Stored
stored_as f w = record { cell = f w.cell; number = w.number }

abbrev good_number : ℤ → Result ℤ ℕ
good_number n = Ok n

pub number_one : (m n : ℤ) → good_number m ≡ good_number n → m ≡ n
number_one m n e = ok_one m n e

abbrev good_cell : Cell → Result Cell ℕ
good_cell c = Ok c

pub cell_one : (c d : Cell) → good_cell c ≡ good_cell d → c ≡ d
cell_one c d e = ok_one c d e

-- what an assignment stores, where its value and its cell follow
pub stored_follows : (f : Cell → Cell) (g other : Names) (left right other_left other_right : ExprTree) (s w : Store) → Follows itself (value g right s) (value other other_right w) → Follows f (target g left s) (target other other_left w)
    → Follows (stored_as f) (assigned g left right s) (assigned other other_left other_right w)
stored_follows f g other left right other_left other_right s w values targets =
    then_follows itself (stored_as f) (value g right s) (value other other_right w)
    (λ v. target g left s >>> λ c. given (storable v) >>> λ n. given (Ok (record { cell = c; number = n })))
    (λ v. target other other_left w >>> λ c. given (storable v) >>> λ n. given (Ok (record { cell = c; number = n })))
    values
    (λ v. then_follows f (stored_as f) (target g left s) (target other other_left w)
    (λ c. given (storable v) >>> λ n. given (Ok (record { cell = c; number = n })))
    (λ c. given (storable v) >>> λ n. given (Ok (record { cell = c; number = n })))
    targets
    (λ c. then_follows itself (stored_as f) (given (storable v)) (given (storable v))
    (λ n. given (Ok (record { cell = c; number = n }))) (λ n. given (Ok (record { cell = f c; number = n })))
    (alike (given (storable v))) (λ n. refl)))

pub stored_may : (may : Cell → Bool) (g : Names) (left right : ExprTree) (s : Store) → ComesTo (λ c. may c ≡ true) (target g left s) → ComesTo (λ r. may r.cell ≡ true) (assigned g left right s)
stored_may may g left right s target_may r e =
    let one = came (value g right s).seen (value g right s).result (λ v. target g left s >>> λ c. given (storable v) >>> λ n. given (Ok (record { cell = c; number = n }))) r e in
    let two = came (target g left s).seen (target g left s).result (λ c. given (storable one.0) >>> λ n. given (Ok (record { cell = c; number = n }))) r one.2 in
    let three = came (given (storable one.0)).seen (storable one.0) (λ n. given (Ok (record { cell = two.0; number = n }))) r two.2 in
    subst (λ (z : Stored). may z.cell ≡ true) (ok_one (record { cell = two.0; number = three.0 }) r three.2) (target_may two.0 two.1)

module _ (g other : Names) (s w : Store) (m k : Meanings) where
  abbrev Reads : List (List ℕ) → Type 0
  Reads xs = Each (ReadsAlike g other s w m k) xs

  abbrev Elements : ExprTree → Type 0
  Elements e = EachElement (ElementAlike g other s w m k) e

  front : (xs ys : List (List ℕ)) → Reads (xs ++ ys) → Reads xs
  front xs ys h = each_front (ReadsAlike g other s w m k) xs ys h

  behind : (xs ys : List (List ℕ)) → Reads (xs ++ ys) → Reads ys
  behind xs ys h = each_behind (ReadsAlike g other s w m k) xs ys h

  -- an element, where an array may have so many subscripts, and where none may
  element_read : (x : List ℕ) (js : List ℤ) (t : Bool) → is_rank (length js) ≡ t → (is_rank (length js) ≡ true → ElementAlike g other s w m k x)
      → Follows itself (given (element_cell g (name_meant m x) js) >>> read_cell s) (given (element_cell other (name_meant k x) js) >>> read_cell w)
  element_read x js true e h = (h e).element js
  element_read x js false e h =
      subst (λ (r : Result Cell ℕ). Follows itself (given r >>> read_cell s) (given (element_cell other (name_meant k x) js) >>> read_cell w)) (sym (no_rank g (name_meant m x) js e))
      (subst (λ (r : Result Cell ℕ). Follows itself (given (Err outside_bounds) >>> read_cell s) (given r >>> read_cell w)) (sym (no_rank other (name_meant k x) js e)) (inr refl))

  mutual
    pub value_follows : (e : ExprTree) → Reads (expr_names e) → Elements e → Follows itself (value g (replaced m e) s) (value other (replaced k e) w)
    value_follows (Int n) h l = refl
    value_follows (Var x) h l = h.0.alone
    value_follows (Element x es) h l =
        value_then itself itself (values g (all_replaced m es) s) (values other (all_replaced k es) w)
        (λ js. given (element_cell g (name_meant m x) js) >>> read_cell s) (λ js. given (element_cell other (name_meant k x) js) >>> read_cell w)
        (values_follow es h.1 l.1) (λ js e. element_read x js (is_rank (length js)) refl (λ r. l.0 (ap is_rank (sym (values_length g (all_replaced m es) s js e ∙ as_many m es)) ∙ r)))
    value_follows (Neg a) h l = one_follows (λ u. by_number (negation_of u)) (value g (replaced m a) s) (value other (replaced k a) w) (value_follows a h l)
    value_follows (Add a b) h l =
        two_follow (λ u v. by_number (sum_of u v)) (value g (replaced m a) s) (value other (replaced k a) w) (value g (replaced m b) s) (value other (replaced k b) w)
        (value_follows a (front (expr_names a) (expr_names b) h) l.0) (value_follows b (behind (expr_names a) (expr_names b) h) l.1)
    value_follows (Sub a b) h l =
        two_follow (λ u v. by_number (difference_of u v)) (value g (replaced m a) s) (value other (replaced k a) w) (value g (replaced m b) s) (value other (replaced k b) w)
        (value_follows a (front (expr_names a) (expr_names b) h) l.0) (value_follows b (behind (expr_names a) (expr_names b) h) l.1)
    value_follows (Mul a b) h l =
        two_follow (λ u v. by_number (product_of u v)) (value g (replaced m a) s) (value other (replaced k a) w) (value g (replaced m b) s) (value other (replaced k b) w)
        (value_follows a (front (expr_names a) (expr_names b) h) l.0) (value_follows b (behind (expr_names a) (expr_names b) h) l.1)
    value_follows (Div a b) h l =
        two_follow (λ u v. by_number (quotient_of u v)) (value g (replaced m a) s) (value other (replaced k a) w) (value g (replaced m b) s) (value other (replaced k b) w)
        (value_follows a (front (expr_names a) (expr_names b) h) l.0) (value_follows b (behind (expr_names a) (expr_names b) h) l.1)
    value_follows (Pow a b) h l =
        two_follow (λ u v. by_number (power_of u v)) (value g (replaced m a) s) (value other (replaced k a) w) (value g (replaced m b) s) (value other (replaced k b) w)
        (value_follows a (front (expr_names a) (expr_names b) h) l.0) (value_follows b (behind (expr_names a) (expr_names b) h) l.1)
    value_follows (Call f es) h l = one_follows (λ us. of_intrinsic (intrinsic_result f us)) (values g (all_replaced m es) s) (values other (all_replaced k es) w) (values_follow es h l)

    pub values_follow : (es : ExprTrees) → Reads (exprs_names es) → AllElements (ElementAlike g other s w m k) es → Follows itself (values g (all_replaced m es) s) (values other (all_replaced k es) w)
    values_follow no_exprs h l = refl
    values_follow (more_exprs e rest) h l =
        two_follow (λ u us. Ok (u ∷ us)) (value g (replaced m e) s) (value other (replaced k e) w) (values g (all_replaced m rest) s) (values other (all_replaced k rest) w)
        (value_follows e (front (expr_names e) (exprs_names rest) h) l.0) (values_follow rest (behind (expr_names e) (exprs_names rest) h) l.1)

  pub truth_follows : (c : CondTree) → Reads (cond_names c) → CondElements (ElementAlike g other s w m k) c → Follows itself (truth g (cond_replaced m c) s) (truth other (cond_replaced k c) w)
  truth_follows (Rel r a b) h l =
      two_follow (λ u v. Ok (relation_holds r u v)) (value g (replaced m a) s) (value other (replaced k a) w) (value g (replaced m b) s) (value other (replaced k b) w)
      (value_follows a (front (expr_names a) (expr_names b) h) l.0) (value_follows b (behind (expr_names a) (expr_names b) h) l.1)
  truth_follows (Not a) h l = one_follows (λ u. Ok (not u)) (truth g (cond_replaced m a) s) (truth other (cond_replaced k a) w) (truth_follows a h l)
  truth_follows (And a b) h l =
      two_follow (λ u v. Ok (u && v)) (truth g (cond_replaced m a) s) (truth other (cond_replaced k a) w) (truth g (cond_replaced m b) s) (truth other (cond_replaced k b) w)
      (truth_follows a (front (cond_names a) (cond_names b) h) l.0) (truth_follows b (behind (cond_names a) (cond_names b) h) l.1)
  truth_follows (Or a b) h l =
      two_follow (λ u v. Ok (u || v)) (truth g (cond_replaced m a) s) (truth other (cond_replaced k a) w) (truth g (cond_replaced m b) s) (truth other (cond_replaced k b) w)
      (truth_follows a (front (cond_names a) (cond_names b) h) l.0) (truth_follows b (behind (cond_names a) (cond_names b) h) l.1)

  text_follows : (item : ItemTree) → Reads (item_names item) → ItemElements (ElementAlike g other s w m k) item → Follows itself (item_text g (item_replaced m item) s) (item_text other (item_replaced k item) w)
  text_follows (Value e) h l = one_follows (λ n. Ok (signed_decimal n)) (value g (replaced m e) s) (value other (replaced k e) w) (value_follows e h l)
  text_follows (Text text) h l = refl

  texts_follow : (items : List ItemTree) → Reads (flat_map item_names items) → ItemsElements (ElementAlike g other s w m k) items → Follows itself (item_texts g (map (item_replaced m) items) s) (item_texts other (map (item_replaced k) items) w)
  texts_follow [] h l = refl
  texts_follow (item ∷ rest) h l =
      two_follow (λ text texts. Ok (text ∷ texts)) (item_text g (item_replaced m item) s) (item_text other (item_replaced k item) w)
      (item_texts g (map (item_replaced m) rest) s) (item_texts other (map (item_replaced k) rest) w)
      (text_follows item (front (item_names item) (flat_map item_names rest) h) l.0) (texts_follow rest (behind (item_names item) (flat_map item_names rest) h) l.1)

  pub line_follows : (items : List ItemTree) → Reads (flat_map item_names items) → ItemsElements (ElementAlike g other s w m k) items → Follows itself (printed_line g (map (item_replaced m) items) s) (printed_line other (map (item_replaced k) items) w)
  line_follows items h l = one_follows (λ texts. Ok (join_with_byte 32 texts)) (item_texts g (map (item_replaced m) items) s) (item_texts other (map (item_replaced k) items) w) (texts_follow items h l)

  pub limits_follow : (h : Head) → Reads (expr_names h.first) → Reads (expr_names h.last) → Elements h.first → Elements h.last → Follows itself (limits g (head_replaced m h) s) (limits other (head_replaced k h) w)
  limits_follow h a b c d =
      then_follows itself itself (value g (replaced m h.first) s) (value other (replaced k h.first) w)
      (λ u. given (in_bounds u) >>> λ i. value g (replaced m h.last) s >>> λ v. given (in_bounds v) >>> λ j. given (Ok (record { first = i; last = j })))
      (λ u. given (in_bounds u) >>> λ i. value other (replaced k h.last) w >>> λ v. given (in_bounds v) >>> λ j. given (Ok (record { first = i; last = j })))
      (value_follows h.first a c)
      (λ u. then_follows itself itself (given (in_bounds u)) (given (in_bounds u))
      (λ i. value g (replaced m h.last) s >>> λ v. given (in_bounds v) >>> λ j. given (Ok (record { first = i; last = j })))
      (λ i. value other (replaced k h.last) w >>> λ v. given (in_bounds v) >>> λ j. given (Ok (record { first = i; last = j })))
      (alike (given (in_bounds u)))
      (λ i. then_follows itself itself (value g (replaced m h.last) s) (value other (replaced k h.last) w)
      (λ v. given (in_bounds v) >>> λ j. given (Ok (record { first = i; last = j })))
      (λ v. given (in_bounds v) >>> λ j. given (Ok (record { first = i; last = j })))
      (value_follows h.last b d) (λ v. alike (given (in_bounds v) >>> λ j. given (Ok (record { first = i; last = j }))))))

  module _ (f : Cell → Cell) (may : Cell → Bool) where
    abbrev Stores : List (List ℕ) → Type 0
    Stores xs = Each (StoresAlike f may g other s w m k) xs

    pub target_follows : (e : ExprTree) → Reads (expr_names e) → Elements e → Stores (assigned_left e) → Follows f (target g (replaced m e) s) (target other (replaced k e) w)
    target_follows (Var x) h l t = t.0.alone
    target_follows (Element x es) h l t =
        then_follows itself f (values g (all_replaced m es) s) (values other (all_replaced k es) w)
        (λ js. given (element_cell g (name_meant m x) js)) (λ js. given (element_cell other (name_meant k x) js)) (values_follow es h.1 l.1) t.0.element
    target_follows (Int n) h l t = inr refl
    target_follows (Neg a) h l t = inr refl
    target_follows (Add a b) h l t = inr refl
    target_follows (Sub a b) h l t = inr refl
    target_follows (Mul a b) h l t = inr refl
    target_follows (Div a b) h l t = inr refl
    target_follows (Pow a b) h l t = inr refl
    target_follows (Call i es) h l t = inr refl

    pub target_may : (e : ExprTree) → Stores (assigned_left e) → ComesTo (λ c. may c ≡ true) (target g (replaced m e) s)
    target_may (Var x) t = t.0.alone_may
    target_may (Element x es) t = then_comes (λ c. may c ≡ true) (values g (all_replaced m es) s) (λ js. given (element_cell g (name_meant m x) js)) t.0.element_may
    target_may (Int n) t = λ v e. absurd cc
    target_may (Neg a) t = λ v e. absurd cc
    target_may (Add a b) t = λ v e. absurd cc
    target_may (Sub a b) t = λ v e. absurd cc
    target_may (Mul a b) t = λ v e. absurd cc
    target_may (Div a b) t = λ v e. absurd cc
    target_may (Pow a b) t = λ v e. absurd cc
    target_may (Call i es) t = λ v e. absurd cc

    pub assigned_may : (left right : ExprTree) → Stores (assigned_left left) → ComesTo (λ r. may r.cell ≡ true) (assigned g (replaced m left) (replaced m right) s)
    assigned_may left right t = stored_may may g (replaced m left) (replaced m right) s (target_may left t)

    pub assigned_follows : (left right : ExprTree) → Reads (expr_names left) → Reads (expr_names right) → Elements left → Elements right → Stores (assigned_left left)
        → Follows (stored_as f) (assigned g (replaced m left) (replaced m right) s) (assigned other (replaced k left) (replaced k right) w)
    assigned_follows left right a b c d t = stored_follows f g other (replaced m left) (replaced m right) (replaced k left) (replaced k right) s w (value_follows right b d) (target_follows left a c t)
