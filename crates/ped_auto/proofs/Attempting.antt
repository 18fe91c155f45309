-- What the code does at a DO, part by part.
use Rattle.std.proofs.Common.{◌≡◌, inl, inr, ℕ, Bool, true, false, Option, Some, None, refl, sym, subst}
use Rattle.std.specs.Option.{is_none}
use Rattle.ped_rules.specs.ped_steps.specs.CodeCauses.{cause_of}
use Rattle.ped_rules.specs.ped_steps.specs.declared.causes.Refused.{Refused}
use Rattle.ped_script.specs.declared.items.Command.{Command}
use Rattle.ped_script.specs.declared.items.Command.TheVariants.{Parallel, Distribute}
use Rattle.ped_auto.specs.CarriedNames.{are_scalars, are_few_scalars}
use Rattle.ped_auto.specs.Editing.{Editing, IsEditing}
use Rattle.ped_auto.specs.Strategy.{Stage, Tries, Privatises, Reduces, OrElse, Attempts, Divides, Visits, VisitsAgain}
use Rattle.ped_auto.specs.CodeStages.{Leads, IsCut, AnyOutcome, Tried, Refusal}
use Rattle.ped_auto.proofs.Leading.{AlwaysLeads, leads_here, leads_on, leads_tries, leads_named, leads_private, leads_reduce, leads_or, leads_attempts, leads_divides}
use Rattle.ped_auto.proofs.OneCourse.{HasOne, one_tries, one_named, one_private, one_attempt}
use Rattle.ped_auto.proofs.Cutting.{cut_within, or_first, or_second}

-- what trying a command answers
pub tried_taken : {S : Type 0} (e : Editing S) (c : Command) (why : Option Refused) (p q : Stage S) → Tried e c why p q → is_none why ≡ true → Tries e c p true q
tried_taken e c None p q h n = h
tried_taken e c (Some why) p q h n = absurd cc

pub tried_left : {S : Type 0} (e : Editing S) (c : Command) (why : Option Refused) (p q : Stage S) → Tried e c why p q → is_none why ≡ false → Tries e c p false q
tried_left e c None p q h n = absurd cc
tried_left e c (Some why) p q h n = ((cause_of why, h.0), h.2)

pub tried_some : {S : Type 0} (e : Editing S) (c : Command) (why : Option Refused) (p q : Stage S) → Tried e c why p q → Tries e c p (is_none why) q
tried_some e c None p q h = h
tried_some e c (Some why) p q h = ((cause_of why, h.0), h.2)

-- a command that was refused is refused in the state that it left
pub still_refused : {S : Type 0} (e : Editing S) (c : Command) (why : Option Refused) (p q : Stage S) → Tried e c why p q → is_none why ≡ false → Refusal e q.now c
still_refused e c None p q h n = absurd cc
still_refused {S} e c (Some why) p q h n = (cause_of why, subst (λ (x : Stage S). e.Refuses x.now c (cause_of why)) (sym h.2) h.0)

-- the parts of an attempt
abbrev Plain : {S : Type 0} → Editing S → ℕ → Stage S → Bool → Stage S → Type 0
Plain e number = Tries e (Parallel number)

abbrev Further : {S : Type 0} → Editing S → ℕ → Stage S → Bool → Stage S → Type 0
Further e number = OrElse (Privatises e number) (Reduces e number)

leads_sums : {S : Type 0} (e : Editing S) → IsEditing e → (number : ℕ) → AlwaysLeads e (Reduces e number)
leads_sums e laws number = leads_named e number are_few_scalars _ (leads_reduce e laws number)

leads_rest : {S : Type 0} (e : Editing S) → IsEditing e → (number : ℕ) → AlwaysLeads e (Further e number)
leads_rest e laws number = leads_or e (Privatises e number) (Reduces e number) (leads_named e number are_scalars _ (leads_private e laws number)) (leads_sums e laws number)

one_privatises : {S : Type 0} (e : Editing S) → IsEditing e → (number : ℕ) → HasOne (Privatises e number)
one_privatises e laws number = one_named e laws number are_scalars _ (one_private e laws number)

-- .. its success
pub attempt_plain : {S : Type 0} (e : Editing S) (number : ℕ) (p q : Stage S) → Tries e (Parallel number) p true q → Attempts e number p true q
attempt_plain e number p q h = inl (h, refl)

pub attempt_private : {S : Type 0} (e : Editing S) (number : ℕ) (p q r : Stage S) → Tries e (Parallel number) p false q → Privatises e number q true r → Attempts e number p true r
attempt_private e number p q r h k = inr (q, h, inl (k, refl))

pub attempt_sums : {S : Type 0} (e : Editing S) (number : ℕ) (p q r z : Stage S) (done : Bool) → Tries e (Parallel number) p false q → Privatises e number q false r → Reduces e number r done z → Attempts e number p done z
attempt_sums e number p q r z done h k m = inr (q, h, inr (r, k, m))

-- .. and where it is cut off
pub cut_plain : {S : Type 0} (e : Editing S) → IsEditing e → (number : ℕ) (p : Stage S) (now : S) (tests : ℕ)
    → IsCut e (AnyOutcome (Tries e (Parallel number))) p now tests → IsCut e (AnyOutcome (Attempts e number)) p now tests
cut_plain e laws number p now tests cut =
    cut_within e (AnyOutcome (Plain e number)) (AnyOutcome (Attempts e number)) p p now tests cut (leads_here e p)
    (λ q h. or_first e (Plain e number) (Further e number) (leads_rest e laws number) p q h)

-- the rest of an attempt is cut off
cut_rest : {S : Type 0} (e : Editing S) → IsEditing e → (number : ℕ) (p q : Stage S) → Tries e (Parallel number) p false q → (now : S) (tests : ℕ)
    → IsCut e (AnyOutcome (Further e number)) q now tests → IsCut e (AnyOutcome (Attempts e number)) p now tests
cut_rest e laws number p q h now tests cut =
    cut_within e (AnyOutcome (Further e number)) (AnyOutcome (Attempts e number)) p q now tests cut (leads_tries e laws (Parallel number) tt p false q h)
    (λ r k. or_second e (Plain e number) (Further e number) (one_tries e laws (Parallel number)) p q r h k)

pub cut_private : {S : Type 0} (e : Editing S) → IsEditing e → (number : ℕ) (p q : Stage S) → Tries e (Parallel number) p false q → (now : S) (tests : ℕ)
    → IsCut e (AnyOutcome (Privatises e number)) q now tests → IsCut e (AnyOutcome (Attempts e number)) p now tests
cut_private e laws number p q h now tests cut =
    cut_rest e laws number p q h now tests
    (cut_within e (AnyOutcome (Privatises e number)) (AnyOutcome (Further e number)) q q now tests cut (leads_here e q)
    (λ r k. or_first e (Privatises e number) (Reduces e number) (leads_sums e laws number) q r k))

pub cut_sums : {S : Type 0} (e : Editing S) → IsEditing e → (number : ℕ) (p q r : Stage S) → Tries e (Parallel number) p false q → Privatises e number q false r → (now : S) (tests : ℕ)
    → IsCut e (AnyOutcome (Reduces e number)) r now tests → IsCut e (AnyOutcome (Attempts e number)) p now tests
cut_sums e laws number p q r h k now tests cut =
    cut_rest e laws number p q h now tests
    (cut_within e (AnyOutcome (Reduces e number)) (AnyOutcome (Further e number)) q r now tests cut (leads_named e number are_scalars _ (leads_private e laws number) q r false k)
    (λ z m. or_second e (Privatises e number) (Reduces e number) (one_privatises e laws number) q r z k m))

-- a visit
visit_first : {S : Type 0} (e : Editing S) → IsEditing e → (number : ℕ) (p q : Stage S) → Visits e number p q → (m : Stage S) × AnyOutcome (Attempts e number) p m × Leads e m q
visit_first e laws number p q (inl h) = (q, (true, h), leads_here e q)
visit_first e laws number p q (inr h) = (h.0, (false, h.1), leads_divides e laws number h.0 q h.2)

visit_second : {S : Type 0} (e : Editing S) → IsEditing e → (number : ℕ) (p r q : Stage S) → Attempts e number p false r → Visits e number p q → Divides e number r q
visit_second e laws number p r q failed (inl h) = let no : false ≡ true = (one_attempt e laws number p r q false true failed h).0 in absurd cc
visit_second {S} e laws number p r q failed (inr h) =
    let one : h.0 ≡ r = (one_attempt e laws number p h.0 r false false h.1 failed).1 in
    subst (λ (x : Stage S). Divides e number x q) one h.2

divides_first : {S : Type 0} (e : Editing S) → IsEditing e → (number : ℕ) (r q : Stage S) → Divides e number r q → (m : Stage S) × AnyOutcome (Tries e (Distribute number)) r m × Leads e m q
divides_first e laws number r q (inl h) = (q, (false, h), leads_here e q)
divides_first e laws number r q (inr h) = (h.0, (true, h.2), leads_attempts e laws number h.0 q h.1 h.3)

divides_second : {S : Type 0} (e : Editing S) → IsEditing e → (number : ℕ) (r z q : Stage S) → Tries e (Distribute number) r true z → Divides e number r q → (m : Stage S) × AnyOutcome (Attempts e number) z m × Leads e m q
divides_second e laws number r z q taken (inl h) = let no : true ≡ false = (one_tries e laws (Distribute number) r z q true false taken h).0 in absurd cc
divides_second {S} e laws number r z q taken (inr h) =
    let one : h.0 ≡ z = (one_tries e laws (Distribute number) r h.0 z true true h.2 taken).1 in
    (q, (h.1, subst (λ (x : Stage S). Attempts e number x h.1 q) one h.3), leads_here e q)

pub visit_attempted : {S : Type 0} (e : Editing S) (number : ℕ) (p q : Stage S) → Attempts e number p true q → Visits e number p q
visit_attempted e number p q h = inl h

pub visit_undivided : {S : Type 0} (e : Editing S) (number : ℕ) (p q r : Stage S) → Attempts e number p false q → Tries e (Distribute number) q false r → Visits e number p r
visit_undivided e number p q r h k = inr (q, h, inl k)

pub visit_divided : {S : Type 0} (e : Editing S) (number : ℕ) (p q r z : Stage S) (done : Bool) → Attempts e number p false q → Tries e (Distribute number) q true r → Attempts e number r done z → Visits e number p z
visit_divided e number p q r z done h k m = inr (q, h, inr (r, done, k, m))

pub cut_attempt : {S : Type 0} (e : Editing S) → IsEditing e → (number : ℕ) (p : Stage S) (now : S) (tests : ℕ)
    → IsCut e (AnyOutcome (Attempts e number)) p now tests → IsCut e (Visits e number) p now tests
cut_attempt e laws number p now tests cut =
    cut_within e (AnyOutcome (Attempts e number)) (Visits e number) p p now tests cut (leads_here e p) (λ q h. visit_first e laws number p q h)

pub cut_division : {S : Type 0} (e : Editing S) → IsEditing e → (number : ℕ) (p r : Stage S) → Attempts e number p false r → (now : S) (tests : ℕ)
    → IsCut e (AnyOutcome (Tries e (Distribute number))) r now tests → IsCut e (Visits e number) p now tests
cut_division e laws number p r failed now tests cut =
    cut_within e (AnyOutcome (Tries e (Distribute number))) (Visits e number) p r now tests cut (leads_attempts e laws number p r false failed)
    (λ q h. divides_first e laws number r q (visit_second e laws number p r q failed h))

pub cut_divided : {S : Type 0} (e : Editing S) → IsEditing e → (number : ℕ) (p r z : Stage S) → Attempts e number p false r → Tries e (Distribute number) r true z → (now : S) (tests : ℕ)
    → IsCut e (AnyOutcome (Attempts e number)) z now tests → IsCut e (Visits e number) p now tests
cut_divided e laws number p r z failed taken now tests cut =
    cut_within e (AnyOutcome (Attempts e number)) (Visits e number) p z now tests cut
    (leads_on e p r z (leads_attempts e laws number p r false failed) (leads_tries e laws (Distribute number) tt r true z taken))
    (λ q h. divides_second e laws number r z q taken (visit_second e laws number p r q failed h))

-- a further visit is one command
pub cut_again : {S : Type 0} (e : Editing S) → IsEditing e → (number : ℕ) (p : Stage S) (now : S) (tests : ℕ)
    → IsCut e (AnyOutcome (Tries e (Parallel number))) p now tests → IsCut e (VisitsAgain e number) p now tests
cut_again e laws number p now tests cut =
    cut_within e (AnyOutcome (Tries e (Parallel number))) (VisitsAgain e number) p p now tests cut (leads_here e p) (λ q h. (q, h, leads_here e q))

-- a command that was refused has left the stage as it was
pub same_where_left : {S : Type 0} (e : Editing S) (c : Command) (why : Option Refused) (p q : Stage S) → Tried e c why p q → is_none why ≡ false → q ≡ p
same_where_left e c None p q h n = absurd cc
same_where_left e c (Some why) p q h n = h.2
