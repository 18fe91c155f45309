-- What the items of a script come to, one behind another.
use Rattle.std.proofs.Common.{◌≡◌, ◌≢◌, inl, ◌∙◌, ℕ, ◌+◌, ◌<◌, ◌≤◌, ap, sym, refl, List, [], ◌∷◌, ◌++◌, length, take, drop, get_or, Option, Some, None, arith, subst}
use Rattle.std.specs.List.{AllByRecursion}
use Rattle.std.proofs.lemmas.List.Elements.{All-from_recursion}
use Rattle.std.proofs.lemmas.List.{take_more, drop_more, take_all, take-append-drop}
use Rattle.ped_script.specs.declared.items.Command.{Command}
use Rattle.ped_script.specs.declared.items.Command.TheVariants.{Auto}
use Rattle.ped_script.specs.declared.items.Item.{Item}
use Rattle.ped_script.specs.Kinds.{kind_of}
use Rattle.ped_session.specs.States.{State}
use Rattle.ped_session.specs.Scripts.{Said, nothing_said, bad_command_said, said_by, said_both, AnswersCommand, AnswersItems}
use Rattle.ped_session.proofs.IdleRows.{answered_idle}
use Rattle.ped_session.proofs.OneStep.{one}
use Rattle.ped_answer.specs.declared.tallies.Tally as code
use Rattle.ped_answer.specs.Generated.{Tally, no_tally, tally_both, tally_of, bad_command_tally, AppliesCommand, Applies}
use Rattle.ped_answer.specs.Tallies.{IsNoAuto, counted}

abbrev tally_by : ℕ → ℕ → ℕ → Tally
tally_by accepted refused tests = record { accepted = accepted; refused = refused; tests = tests }

abbrev code_by : ℕ → ℕ → ℕ → code.Tally
code_by accepted refused tested = record { accepted = accepted; refused = refused; tested = tested }

-- two tallies are equal where their parts are
same_tally : {x y p q m n : ℕ} → x ≡ y → p ≡ q → m ≡ n → tally_by x p m ≡ tally_by y q n
same_tally {x} {y} {p} {q} {m} {n} a r t =
    ap (λ (z : ℕ). tally_by z p m) a ∙ ap (λ (z : ℕ). tally_by y z m) r ∙ ap (λ (z : ℕ). tally_by y q z) t

same_code : {x y p q m n : ℕ} → x ≡ y → p ≡ q → m ≡ n → code_by x p m ≡ code_by y q n
same_code {x} {y} {p} {q} {m} {n} a r t =
    ap (λ (z : ℕ). code_by z p m) a ∙ ap (λ (z : ℕ). code_by y z m) r ∙ ap (λ (z : ℕ). code_by y q z) t

nothing_behind : (a : Tally) → tally_both a no_tally ≡ a
nothing_behind a = same_tally (omega arith) (omega arith) (omega arith)

nothing_before : (a : Tally) → tally_both no_tally a ≡ a
nothing_before a = same_tally (omega arith) (omega arith) (omega arith)

both_assoc : (a b c : Tally) → tally_both (tally_both a b) c ≡ tally_both a (tally_both b c)
both_assoc a b c = same_tally (omega arith) (omega arith) (omega arith)

-- a count with nothing more
pub counted_nothing : (a : code.Tally) → counted a no_tally ≡ a
counted_nothing a = same_code (omega arith) (omega arith) (omega arith)

-- a count with some lines, and with more
pub counted_both : (a : code.Tally) (first rest : Tally) → counted (counted a first) rest ≡ counted a (tally_both first rest)
counted_both a first rest = same_code (omega arith) (omega arith) (omega arith)

-- a count with a line that is no command
pub counted_bad : (a : code.Tally) → code_by a.accepted (a.refused + 1) a.tested ≡ counted a bad_command_tally
counted_bad a = same_code (omega arith) (omega arith) (omega arith)

-- a line comes to one thing, and leads to one state
one_applied : (command : Option Command) (s m n : State) (a b : Tally) → AppliesCommand command s a m → AppliesCommand command s b n → (a ≡ b) × (m ≡ n)
one_applied None s m n a b p q = (p.0 ∙ sym q.0, p.1 ∙ sym q.1)
one_applied (Some c) s m n a b p q =
    let step = one c [] s m n p.0 q.0 p.1 q.1 in
    (p.2 ∙ (λ i. tally_of (step.0 i) (step.1 i)) ∙ sym q.2, step.1)

-- and so do items
pub one_applies : (items : List Item) (s m n : State) (a b : Tally) → Applies items s a m → Applies items s b n → (a ≡ b) × (m ≡ n)
one_applies [] s m n a b p q = (p.0 ∙ sym q.0, p.1 ∙ sym q.1)
one_applies (item ∷ items) s m n a b p q =
    let first = one_applied item.command s p.1 q.1 p.0 q.0 p.2 q.2 in
    let rest = one_applies items q.1 m n p.3 q.3 (subst (λ (x : State). Applies items x p.3 m) first.1 p.4) q.4 in
    (p.5 ∙ (λ i. tally_both (first.0 i) (rest.0 i)) ∙ sym q.5, rest.1)

-- what the script says on the way
says_command : (line : ℕ) (command : Option Command) (s next : State) (tally : Tally) → AppliesCommand command s tally next → (said : Said) × AnswersCommand line command [] s said next
says_command line None s next tally h = (bad_command_said line, (refl, h.1))
says_command line (Some c) s next tally h =
    let idle = answered_idle line (kind_of c) [] s next h.0 h.1 in
    (said_by line h.0 idle.0 next, inl (h.0, h.1, idle.0, idle.1, refl))

pub says_items : (items : List Item) (s last : State) (tally : Tally) → Applies items s tally last → (said : Said) × AnswersItems items [] s said last
says_items [] s last tally h = (nothing_said, (refl, h.1))
says_items (item ∷ items) s last tally h =
    let first = says_command item.line item.command s h.1 h.0 h.2 in
    let rest = says_items items h.1 last h.3 h.4 in
    (said_both first.0 rest.0, (first.0, h.1, first.1, rest.0, rest.1, refl))

-- items, and then one more
items_then : (items : List Item) (item : Item) (s m n : State) (a b : Tally)
    → Applies items s a m → AppliesCommand item.command m b n → Applies (items ++ item ∷ []) s (tally_both a b) n
items_then [] item s m n a b done last =
    subst (λ (x : Tally). Applies (item ∷ []) s (tally_both x b) n) (sym done.0)
    (b, n, subst (λ (x : State). AppliesCommand item.command x b n) done.1 last, no_tally, (refl, refl), nothing_before b ∙ sym (nothing_behind b))
items_then (i ∷ is) item s m n a b done last = (
  done.0,
  done.1,
  done.2,
  tally_both done.3 b,
  items_then is item done.1 m n done.3 b done.4 last,
  ap (λ (x : Tally). tally_both x b) done.5 ∙ both_assoc done.0 done.3 b,
)

-- items in two parts
record Parts (front back : List Item) (s : State) (a : Tally) (n : State) : Type 0 where
  first : Tally
  mid : State
  before : Applies front s first mid
  rest : Tally
  behind : Applies back mid rest n
  both : a ≡ tally_both first rest

items_apart : (front back : List Item) (s n : State) (a : Tally) → Applies (front ++ back) s a n → Parts front back s a n
items_apart [] back s n a done = record {
  first = no_tally;
  mid = s;
  before = (refl, refl);
  rest = a;
  behind = done;
  both = sym (nothing_before a);
}
items_apart (i ∷ is) back s n a done =
    let p = items_apart is back done.1 n done.3 done.4 in
    record {
      first = tally_both done.0 p.first;
      mid = p.mid;
      before = (done.0, done.1, done.2, p.first, p.before, refl);
      rest = p.rest;
      behind = p.behind;
      both = done.5 ∙ ap (λ (x : Tally). tally_both done.0 x) p.both ∙ sym (both_assoc done.0 p.first p.rest);
    }

-- the item at a place, behind what those before it come to
pub record AtItem (item : Item) (front : Tally) (mid : State) (a : Tally) : Type 0 where
  pub tally : Tally
  pub next : State
  pub applies : AppliesCommand item.command mid tally next
  pub more : ℕ
  pub tests : a.tests ≡ front.tests + (tally.tests + more)

at_first : (item : Item) (items : List Item) (front a rest : Tally) (mid n : State)
    → Applies (item ∷ items) mid rest n → a ≡ tally_both front rest → AtItem item front mid a
at_first item items front a rest mid n behind both = record {
  tally = behind.0;
  next = behind.1;
  applies = behind.2;
  more = behind.3.tests;
  tests = ap (λ (x : Tally). x.tests) both ∙ ap (λ (x : Tally). front.tests + x.tests) behind.5;
}

pub item_within : (items : List Item) (i : ℕ) (item : Item) (s mid n : State) (front a : Tally)
    → i < length items → item ≡ get_or items i item → Applies (take i items) s front mid → Applies items s a n → AtItem item front mid a
item_within items i item s mid n front a h at before whole =
    let p = items_apart (take i items) (drop i items) s n a (subst (λ (is : List Item). Applies is s a n) (sym (take-append-drop i items)) whole) in
    let same = one_applies (take i items) s p.mid mid p.first front p.before before in
    let here : drop i items ≡ item ∷ drop (i + 1) items = drop_more items i item h ∙ ap (λ (x : Item). x ∷ drop (i + 1) items) (sym at) in
    let behind = subst (λ (m : State). Applies (drop i items) m p.rest n) same.1 p.behind in
    at_first item (drop (i + 1) items) front a p.rest mid n
    (subst (λ (is : List Item). Applies is mid p.rest n) here behind)
    (p.both ∙ ap (λ (x : Tally). tally_both x p.rest) same.0)

-- items up to a place, and the item there
pub items_more : (items : List Item) (i : ℕ) (item : Item) (s m n : State) (a b : Tally)
    → i < length items → item ≡ get_or items i item → Applies (take i items) s a m → AppliesCommand item.command m b n
    → Applies (take (i + 1) items) s (tally_both a b) n
items_more items i item s m n a b h at before here =
    let more : take (i + 1) items ≡ take i items ++ item ∷ [] = take_more items i item h ∙ ap (λ (x : Item). take i items ++ x ∷ []) (sym at) in
    subst (λ (is : List Item). Applies is s (tally_both a b) n) (sym more) (items_then (take i items) item s m n a b before here)

-- the command of an item isn't `auto`, where no item is
pub item_no_auto : (items : List Item) (i : ℕ) (item : Item) (command : Command) → AllByRecursion IsNoAuto items → i < length items → item ≡ get_or items i item → item.command ≡ Some command → command ≢ Auto
item_no_auto items i item command others h at some is = subst IsNoAuto (sym at) (All-from_recursion IsNoAuto items others i item h) (some ∙ ap Some is)

-- all items
pub items_all : (items : List Item) (i : ℕ) (s n : State) (a : Tally) → length items ≤ i → Applies (take i items) s a n → Applies items s a n
items_all items i s n a h done = subst (λ (is : List Item). Applies is s a n) (take_all i items h) done
