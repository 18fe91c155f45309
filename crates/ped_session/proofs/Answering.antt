-- Answers one behind another.
use Rattle.std.proofs.Common.{◌≡◌, ◌∙◌, ℕ, ◌+◌, ◌<◌, ◌≤◌, ap, sym, refl, List, [], ◌∷◌, ◌++◌, length, take, drop, get_or, append-nil, append_assoc, Bool, true, false, ◌||◌, arith, subst}
use Rattle.std.proofs.lemmas.List.{take_more, drop_more, take_all, take-append-drop}
use Rattle.ped_script.specs.declared.items.Item.{Item}
use Rattle.ped_session.specs.declared.answers.Answered.{Answered}
use Rattle.ped_versions.specs.States.{State}
use Rattle.ped_session.specs.Adding.{Adds}
use Rattle.ped_session.specs.Scripts.{Said, said_both, nothing_said, AnswersItem, AnswersItems}
use Rattle.ped_session.proofs.OneAnswer.{one_all}

or_false : (b : Bool) → b || false ≡ b
or_false true = refl
or_false false = refl

or_assoc : (a b c : Bool) → (a || b) || c ≡ a || (b || c)
or_assoc true b c = refl
or_assoc false b c = refl

abbrev said_of : List ℕ → Bool → ℕ → Said
said_of bytes refused tests = record { bytes = bytes; refused = refused; tests = tests }

abbrev answered_of : List ℕ → Bool → Answered
answered_of bytes refused = record { bytes = bytes; refused = refused }

-- two answers are equal where their parts are
same_said : {x y : List ℕ} {p q : Bool} {m n : ℕ} → x ≡ y → p ≡ q → m ≡ n → said_of x p m ≡ said_of y q n
same_said {x} {y} {p} {q} {m} {n} b r t =
    ap (λ (z : List ℕ). said_of z p m) b ∙ ap (λ (z : Bool). said_of y z m) r ∙ ap (λ (z : ℕ). said_of y q z) t

pub same_answered : {x y : List ℕ} {p q : Bool} → x ≡ y → p ≡ q → answered_of x p ≡ answered_of y q
same_answered {x} {y} {p} {q} b r = ap (λ (z : List ℕ). answered_of z p) b ∙ ap (λ (z : Bool). answered_of y z) r

said_nothing_behind : (a : Said) → said_both a nothing_said ≡ a
said_nothing_behind a = same_said (append-nil a.bytes) (or_false a.refused) (omega (arith))

said_nothing_before : (a : Said) → said_both nothing_said a ≡ a
said_nothing_before a = same_said refl refl (omega (arith))

said_assoc : (a b c : Said) → said_both (said_both a b) c ≡ said_both a (said_both b c)
said_assoc a b c = same_said (append_assoc a.bytes b.bytes c.bytes) (or_assoc a.refused b.refused c.refused) (omega (arith))

-- items, and then one more
pub items_then : (items : List Item) (item : Item) (data_bytes : List ℕ) (s m n : State) (a b : Said)
    → AnswersItems items data_bytes s a m → AnswersItem item data_bytes m b n → AnswersItems (items ++ item ∷ []) data_bytes s (said_both a b) n
items_then [] item data_bytes s m n a b done last =
    subst (λ (x : Said). AnswersItems (item ∷ []) data_bytes s (said_both x b) n) (sym done.0)
    (b, n, subst (λ (x : State). AnswersItem item data_bytes x b n) done.1 last, nothing_said, (refl, refl), said_nothing_before b ∙ sym (said_nothing_behind b))
items_then (i ∷ is) item data_bytes s m n a b done last = (
  done.0,
  done.1,
  done.2,
  said_both done.3 b,
  items_then is item data_bytes done.1 m n done.3 b done.4 last,
  ap (λ (x : Said). said_both x b) done.5 ∙ said_assoc done.0 done.3 b,
)

-- items in two parts
pub record Parts (front back : List Item) (data_bytes : List ℕ) (s : State) (a : Said) (n : State) : Type 0 where
  pub first : Said
  pub mid : State
  pub before : AnswersItems front data_bytes s first mid
  pub rest : Said
  pub behind : AnswersItems back data_bytes mid rest n
  pub both : a ≡ said_both first rest

pub items_apart : (front back : List Item) (data_bytes : List ℕ) (s n : State) (a : Said)
    → AnswersItems (front ++ back) data_bytes s a n → Parts front back data_bytes s a n
items_apart [] back data_bytes s n a done = record {
  first = nothing_said;
  mid = s;
  before = (refl, refl);
  rest = a;
  behind = done;
  both = sym (said_nothing_before a);
}
items_apart (i ∷ is) back data_bytes s n a done =
    let p = items_apart is back data_bytes done.1 n done.3 done.4 in
    record {
      first = said_both done.0 p.first;
      mid = p.mid;
      before = (done.0, done.1, done.2, p.first, p.before, refl);
      rest = p.rest;
      behind = p.behind;
      both = done.5 ∙ ap (λ (x : Said). said_both done.0 x) p.both ∙ sym (said_assoc done.0 p.first p.rest);
    }

-- the item at a place, among what items answer, behind what those before it answer
pub record AtItem (item : Item) (data_bytes : List ℕ) (front : Said) (mid : State) (a : Said) : Type 0 where
  pub said : Said
  pub next : State
  pub answers : AnswersItem item data_bytes mid said next
  pub more : ℕ
  pub tests : a.tests ≡ front.tests + (said.tests + more)

at_first : (item : Item) (items : List Item) (data_bytes : List ℕ) (front a rest : Said) (mid n : State)
    → AnswersItems (item ∷ items) data_bytes mid rest n → a ≡ said_both front rest → AtItem item data_bytes front mid a
at_first item items data_bytes front a rest mid n behind both = record {
  said = behind.0;
  next = behind.1;
  answers = behind.2;
  more = behind.3.tests;
  tests = ap (λ (x : Said). x.tests) both ∙ ap (λ (x : Said). front.tests + x.tests) behind.5;
}

pub item_within : (items : List Item) (i : ℕ) (item : Item) (data_bytes : List ℕ) (s mid n : State) (front a : Said)
    → i < length items → item ≡ get_or items i item → AnswersItems (take i items) data_bytes s front mid → AnswersItems items data_bytes s a n
    → AtItem item data_bytes front mid a
item_within items i item data_bytes s mid n front a h at before whole =
    let p = items_apart (take i items) (drop i items) data_bytes s n a (subst (λ (is : List Item). AnswersItems is data_bytes s a n) (sym (take-append-drop i items)) whole) in
    let same = one_all (take i items) data_bytes s p.mid mid p.first front p.before before in
    let here : drop i items ≡ item ∷ drop (i + 1) items = drop_more items i item h ∙ ap (λ (x : Item). x ∷ drop (i + 1) items) (sym at) in
    let behind = subst (λ (m : State). AnswersItems (drop i items) data_bytes m p.rest n) same.1 p.behind in
    at_first item (drop (i + 1) items) data_bytes front a p.rest mid n
    (subst (λ (is : List Item). AnswersItems is data_bytes mid p.rest n) here behind)
    (p.both ∙ ap (λ (x : Said). said_both x p.rest) same.0)

-- items up to a place, and the item there
pub items_more : (items : List Item) (i : ℕ) (item : Item) (data_bytes : List ℕ) (s m n : State) (a b : Said)
    → i < length items → item ≡ get_or items i item → AnswersItems (take i items) data_bytes s a m → AnswersItem item data_bytes m b n
    → AnswersItems (take (i + 1) items) data_bytes s (said_both a b) n
items_more items i item data_bytes s m n a b h at before here =
    let more : take (i + 1) items ≡ take i items ++ item ∷ [] = take_more items i item h ∙ ap (λ (x : Item). take i items ++ x ∷ []) (sym at) in
    subst (λ (is : List Item). AnswersItems is data_bytes s (said_both a b) n) (sym more) (items_then (take i items) item data_bytes s m n a b before here)

-- all items
pub items_all : (items : List Item) (i : ℕ) (data_bytes : List ℕ) (s n : State) (a : Said) → length items ≤ i
    → AnswersItems (take i items) data_bytes s a n → AnswersItems items data_bytes s a n
items_all items i data_bytes s n a h done = subst (λ (is : List Item). AnswersItems is data_bytes s a n) (take_all i items h) done

-- an answer of one kind is one of another
pub adds_further : (P Q : Said → Type 0) (before after : Answered) (m n : ℕ) → ((said : Said) → P said → Q said) → Adds P before after m n → Adds Q before after m n
adds_further P Q before after m n f h = record { said = h.said; is = f h.said h.is; adds = h.adds; ticks = h.ticks }
