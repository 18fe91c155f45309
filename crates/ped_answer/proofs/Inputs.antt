-- A file is read, and the rest is served behind it: so the file and the rest are served.
use Rattle.std.proofs.Common.{◌≡◌, ◌≢◌, ◌⊎◌, ℕ, ◌<◌, ◌≤◌, Bool, List, [], ◌∷◌, length, Option, Some, None, refl, sym, ◌∙◌, subst, inl, inr, arith}
use Rattle.std.specs.Prelude.{MatchOption, MatchBool, nat_lt}
use Rattle.std.proofs.lemmas.Bool.{le-ltb, lt-ltb}
use Rattle.ped_io.specs.Outside.{Contents, content, IsHeld, Rose}
use Rattle.ped_io.specs.declared.loading.LoadError.{LoadError}
use Rattle.ped_io.specs.declared.loading.LoadError.TheVariants as load
use Rattle.ped_answer.specs.declared.answering.Status.{Status}
use Rattle.ped_answer.specs.declared.answering.Status.TheVariants.{Done, SomeRefused, BadWords, ReadFault, WriteFault, ProgramRefused, NoMemory, TooLong}
use Rattle.ped_answer.specs.Answer.{Input, HasRead, IsHeldWithin, IsTooLong, CannotRead, MayGive, AnswersInput, IsShown, IsSession, Sends}
use Rattle.ped_answer.specs.Generated.{IsGenerated}
use Rattle.ped_answer.specs.TestCounts.{TestsInput, Ticks, IsUntested}
use Rattle.ped_answer.specs.Serving.{Call, HasFailed, SinkFailed, Served, SaysUnread, unread_status}
use Rattle.ped_answer.proofs.Counting.{idle_ticks}
use Rattle.ped_answer.proofs.Outcomes.{outcome_weaker}

-- a case by what a file holds: nothing, too many bytes, or these
abbrev ByFile : Type 0 → Type 0 → (List ℕ → Type 0) → ℕ → Option (List ℕ) → Type 0
ByFile none more some most held = MatchOption held none (λ text. MatchBool (nat_lt most (length text)) more (some text))

-- a case by whether bytes are too many
abbrev ByLength : Type 0 → (List ℕ → Type 0) → List ℕ → Bool → Type 0
ByLength more some text long = MatchBool long more (some text)

module _ (none more : Type 0) (some : List ℕ → Type 0) (i : Input) (files : Contents) where
  in_some : (h : IsHeldWithin i files) → some h.bytes → ByFile none more some i.most (content files i.name)
  in_some h x = subst (ByFile none more some i.most) (sym h.held) (subst (ByLength more some h.bytes) (sym h.within) x)

  of_some : (h : IsHeldWithin i files) → ByFile none more some i.most (content files i.name) → some h.bytes
  of_some h x = subst (ByLength more some h.bytes) h.within (subst (ByFile none more some i.most) h.held x)

  in_more : IsTooLong i files → more → ByFile none more some i.most (content files i.name)
  in_more h x = subst (ByFile none more some i.most) (sym h.held) (subst (ByLength more some h.bytes) (sym h.more) x)

-- a line is about a file whose count rose, also where the counts are taken from before
cannot_read_since : (inputs : List Input) (files : Contents) (f g : List ℕ → Type 0) → ((name : List ℕ) → f name → g name) → (line : List ℕ) → CannotRead inputs files f line → CannotRead inputs files g line
cannot_read_since [] files f g since line h = elim h [ ]
cannot_read_since (i ∷ is) files f g since line (inl here) = inl (since i.name here.0, here.1)
cannot_read_since (i ∷ is) files f g since line (inr later) = inr (later.0, cannot_read_since is files f g since line later.1)

-- a count has risen since before, where it has risen since later
rose_since : (a b c : ℕ) → a ≤ b → Rose b c → Rose a c
rose_since a b c h (inl less) = inl (let l : a < c = omega arith in l)
rose_since a b c h (inr last) = inr last

-- what may be given behind a file that is read may be given
behind : (i : Input) (is : List Input) (files : Contents) (f g : List ℕ → Type 0) (answers : List ℕ → Status → List ℕ → Type 0) (h : IsHeldWithin i files)
    → ((name : List ℕ) → f name → g name) → (s : Status) (b : List ℕ) → MayGive is files f (answers h.bytes) s b → MayGive (i ∷ is) files g (AnswersInput i files answers) s b
behind i is files f g answers h since ReadFault b x = inr (h, cannot_read_since is files f g since b x)
behind i is files f g answers h since Done b x = in_some _ _ (λ text. answers text Done b) i files h x
behind i is files f g answers h since SomeRefused b x = in_some _ _ (λ text. answers text SomeRefused b) i files h x
behind i is files f g answers h since BadWords b x = in_some _ _ (λ text. answers text BadWords b) i files h x
behind i is files f g answers h since ProgramRefused b x = in_some _ _ (λ text. answers text ProgramRefused b) i files h x
behind i is files f g answers h since TooLong b x = in_some _ _ (λ text. answers text TooLong b) i files h x
behind i is files f g answers h since WriteFault b x = absurd x
behind i is files f g answers h since NoMemory b x = absurd x

-- a file is read whole, and then the rest is served on its bytes
pub read_served : (i : Input) (is : List Input) (rest : List ℕ → Contents → Status → List ℕ → Type 0) (rest_tests : List ℕ → Contents → ℕ → Type 0)
    (told : Option Contents) (counts : List ℕ → ℕ) (text : List ℕ) (call : Call)
    → ((files : Contents) → call.may files → content files i.name ≡ Some text) → length text ≤ i.most
    → ((name : List ℕ) → counts name ≤ call.counts name)
    → ((files : Contents) → told ≡ Some files → (name : List ℕ) → name ≢ i.name → IsHeld files name → call.counts name ≡ counts name)
    → call.told ≡ told
    → Served is (rest text) (rest_tests text) call
    → Served (i ∷ is) (λ files. AnswersInput i files (λ bytes. rest bytes files)) (λ files. TestsInput i files (λ bytes. rest_tests bytes files)) (record call { told = told; counts = counts })
read_served i is rest rest_tests told counts text call loaded short rises others same served =
    let held : (files : Contents) → call.may files → IsHeldWithin i files =
    λ files may. record { bytes = text; held = loaded files may; within = le-ltb i.most (length text) short } in
    let since : (name : List ℕ) → HasFailed call name → Rose (counts name) (call.counts_after name) =
    λ name. rose_since (counts name) (call.counts name) (call.counts_after name) (rises name) in
    record {
      sends = λ files may.
          let o = served.sends files may in (
            o.0,
            o.1,
            outcome_weaker (MayGive is files (HasFailed call) (rest text files)) (MayGive (i ∷ is) files (λ name. Rose (counts name) (call.counts_after name)) (AnswersInput i files (λ bytes. rest bytes files)))
                (behind i is files (HasFailed call) (λ name. Rose (counts name) (call.counts_after name)) (λ bytes. rest bytes files) (held files may) since) (SinkFailed call) o.0 call.status o.2,
          );
      known = λ read files others may too. (loaded files may ∙ sym (loaded others too), served.known read files others may too);
      words = served.words;
      read_fault = λ fault. let one = served.read_fault fault in (one.0, inr one.1, since one.0 one.2);
      write_fault = served.write_fault;
      too_long = λ long files may. inr (held files may, served.too_long long files may);
      rises = λ name. let first = rises name in let second = served.rises name in omega arith;
      others = λ files e name not there.
          served.others files (same ∙ e) name (λ one. not (inr one)) there ∙ others files e name (λ n. not (inl n)) there;
      sink_rises = served.sink_rises;
      untold = served.untold;
      told_sent = served.told_sent;
      ticks = λ files may n tests. served.ticks files may n (of_some _ _ (λ bytes. rest_tests bytes files n) i files (held files may) tests);
      untested = served.untested;
      steps_rise = served.steps_rise;
    }

-- what is said of a file that isn't loaded is the answer, or may be given in its place
unread_given : (i : Input) (is : List Input) (files : Contents) (failed : List ℕ → Type 0) (answers : List ℕ → Status → List ℕ → Type 0) (fault : LoadError)
    → (fault ≡ load.ReadFault → failed i.name) → (fault ≡ load.TooLong → IsTooLong i files)
    → (s : Status) (b : List ℕ) → SaysUnread i fault s b → MayGive (i ∷ is) files failed (AnswersInput i files answers) s b
unread_given i is files failed answers load.ReadFault rose long s b x =
    subst (λ (y : Status). MayGive (i ∷ is) files failed (AnswersInput i files answers) y b) (sym x.0) (inl (rose refl, x.1))
unread_given i is files failed answers load.TooLong rose long s b x =
    subst (λ (y : Status). MayGive (i ∷ is) files failed (AnswersInput i files answers) y b) (sym x.0) (in_more _ _ (λ text. answers text TooLong b) i files (long refl) (refl, x.1))
unread_given i is files failed answers load.NoMemory rose long s b x = absurd x

-- how a call ends that says why a file isn't loaded
unread_ends : (P : Status → LoadError → Type 0) → P ReadFault load.ReadFault → P TooLong load.TooLong → ((fault : LoadError) → P WriteFault fault) → ((fault : LoadError) → P NoMemory fault)
    → (fault : LoadError) (s : Status) → (s ≡ unread_status fault) ⊎ (s ≡ WriteFault) ⊎ (s ≡ NoMemory) → P s fault
unread_ends P read long write memory load.ReadFault s (inl e) = subst (λ (x : Status). P x load.ReadFault) (sym e) read
unread_ends P read long write memory load.TooLong s (inl e) = subst (λ (x : Status). P x load.TooLong) (sym e) long
unread_ends P read long write memory load.NoMemory s (inl e) = subst (λ (x : Status). P x load.NoMemory) (sym e) (memory load.NoMemory)
unread_ends P read long write memory fault s (inr (inl e)) = subst (λ (x : Status). P x fault) (sym e) (write fault)
unread_ends P read long write memory fault s (inr (inr e)) = subst (λ (x : Status). P x fault) (sym e) (memory fault)

-- it answers no program
calm : (fault : LoadError) (s : Status) → (s ≡ unread_status fault) ⊎ (s ≡ WriteFault) ⊎ (s ≡ NoMemory) → (s ≢ Done) × (s ≢ SomeRefused) × (s ≢ BadWords)
calm = unread_ends (λ s fault. (s ≢ Done) × (s ≢ SomeRefused) × (s ≢ BadWords)) ((λ e. cc), (λ e. cc), (λ e. cc)) ((λ e. cc), (λ e. cc), (λ e. cc)) (λ fault. ((λ e. cc), (λ e. cc), (λ e. cc))) (λ fault. ((λ e. cc), (λ e. cc), (λ e. cc)))

not_read : (fault : LoadError) (s : Status) → (s ≡ unread_status fault) ⊎ (s ≡ WriteFault) ⊎ (s ≡ NoMemory) → HasRead s → ⊥
not_read = unread_ends (λ s fault. HasRead s → ⊥) (λ h. h) (λ h. h) (λ fault h. h) (λ fault h. h)

says_read_fault : (fault : LoadError) (s : Status) → (s ≡ unread_status fault) ⊎ (s ≡ WriteFault) ⊎ (s ≡ NoMemory) → s ≡ ReadFault → fault ≡ load.ReadFault
says_read_fault = unread_ends (λ s fault. s ≡ ReadFault → fault ≡ load.ReadFault) (λ e. refl) (λ e. absurd (let f = e in cc)) (λ fault e. absurd (let f = e in cc)) (λ fault e. absurd (let f = e in cc))

says_too_long : (fault : LoadError) (s : Status) → (s ≡ unread_status fault) ⊎ (s ≡ WriteFault) ⊎ (s ≡ NoMemory) → s ≡ TooLong → fault ≡ load.TooLong
says_too_long = unread_ends (λ s fault. s ≡ TooLong → fault ≡ load.TooLong) (λ e. absurd (let f = e in cc)) (λ e. refl) (λ fault e. absurd (let f = e in cc)) (λ fault e. absurd (let f = e in cc))

-- a file isn't loaded, and that is said
pub unread_served : (i : Input) (is : List Input) (rest : List ℕ → Contents → Status → List ℕ → Type 0) (rest_tests : List ℕ → Contents → ℕ → Type 0) (fault : LoadError) (call : Call)
    → (fault ≡ load.ReadFault → HasFailed call i.name)
    → (fault ≡ load.TooLong → (files : Contents) → call.may files → (bytes : List ℕ) × (content files i.name ≡ Some bytes) × (i.most < length bytes))
    → ((name : List ℕ) → call.counts name ≤ call.counts_after name)
    → ((files : Contents) → call.told ≡ Some files → (name : List ℕ) → name ≢ i.name → IsHeld files name → call.counts_after name ≡ call.counts name)
    → Sends (SaysUnread i fault) (SinkFailed call) call.sent call.sent_after call.status
    → (call.status ≡ unread_status fault) ⊎ (call.status ≡ WriteFault) ⊎ (call.status ≡ NoMemory)
    → (call.status ≡ WriteFault → SinkFailed call) → call.faults ≤ call.faults_after → (call.taken ≡ None → call.taken_after ≡ None) → (call.taken ≡ Some call.sent → call.taken_after ≡ Some call.sent_after)
    → call.steps_after ≡ call.steps
    → Served (i ∷ is) (λ files. AnswersInput i files (λ bytes. rest bytes files)) (λ files. TestsInput i files (λ bytes. rest_tests bytes files)) call
unread_served i is rest rest_tests fault call rose more rises others says ends write_fault sink_rises untold told_sent still =
    let long : (files : Contents) → call.may files → fault ≡ load.TooLong → IsTooLong i files =
    λ files may f. let m = more f files may in record { bytes = m.0; held = m.1; more = lt-ltb i.most (length m.0) m.2 } in
    let c = calm fault call.status ends in
    record {
      sends = λ files may. (
        says.0,
        says.1,
        outcome_weaker (SaysUnread i fault) (MayGive (i ∷ is) files (HasFailed call) (AnswersInput i files (λ bytes. rest bytes files)))
            (unread_given i is files (HasFailed call) (λ bytes. rest bytes files) fault rose (long files may)) (SinkFailed call) says.0 call.status says.2,
      );
      known = λ read files others may too. absurd (not_read fault call.status ends read);
      words = c.2;
      read_fault = λ f. (i.name, inl refl, rose (says_read_fault fault call.status ends f));
      write_fault = write_fault;
      too_long = λ l files may. inl (long files may (says_too_long fault call.status ends l));
      rises = rises;
      others = λ files e name not there. others files e name (λ n. not (inl n)) there;
      sink_rises = sink_rises;
      untold = untold;
      told_sent = told_sent;
      ticks = λ files may n tests. subst (λ (m : ℕ). Ticks call.status call.steps m n) (sym still) (idle_ticks call.status call.steps n c.0 c.1);
      untested = λ u. still;
      steps_rise = omega arith;
    }

-- endings of an answer to a text
pub data IsOfText (s : Status) : Type 0 where
  is_done : s ≡ Done → IsOfText s
  is_some_refused : s ≡ SomeRefused → IsOfText s
  is_program_refused : s ≡ ProgramRefused → IsOfText s
  is_write_fault : s ≡ WriteFault → IsOfText s
  is_no_memory : s ≡ NoMemory → IsOfText s

not_of_text : (s other : Status) → Done ≢ other → SomeRefused ≢ other → ProgramRefused ≢ other → WriteFault ≢ other → NoMemory ≢ other → IsOfText s → s ≢ other
not_of_text s other a b c d e (is_done h) f = a (sym h ∙ f)
not_of_text s other a b c d e (is_some_refused h) f = b (sym h ∙ f)
not_of_text s other a b c d e (is_program_refused h) f = c (sym h ∙ f)
not_of_text s other a b c d e (is_write_fault h) f = d (sym h ∙ f)
not_of_text s other a b c d e (is_no_memory h) f = e (sym h ∙ f)

pub shown_ends : (s : Status) → (s ≡ Done) ⊎ (s ≡ ProgramRefused) ⊎ (s ≡ WriteFault) ⊎ (s ≡ NoMemory) → IsOfText s
shown_ends s (inl e) = is_done e
shown_ends s (inr (inl e)) = is_program_refused e
shown_ends s (inr (inr (inl e))) = is_write_fault e
shown_ends s (inr (inr (inr e))) = is_no_memory e

pub session_ends : (s : Status) → (s ≡ Done) ⊎ (s ≡ SomeRefused) ⊎ (s ≡ ProgramRefused) ⊎ (s ≡ WriteFault) ⊎ (s ≡ NoMemory) → IsOfText s
session_ends s (inl e) = is_done e
session_ends s (inr (inl e)) = is_some_refused e
session_ends s (inr (inr (inl e))) = is_program_refused e
session_ends s (inr (inr (inr (inl e)))) = is_write_fault e
session_ends s (inr (inr (inr (inr e)))) = is_no_memory e

-- what is shown of a text may be given where no file is left
pub shown_given : (text : List ℕ) (files : Contents) (failed : List ℕ → Type 0) (s : Status) (b : List ℕ) → IsShown text s b → MayGive [] files failed (IsShown text) s b
shown_given text files failed Done b h = h
shown_given text files failed ProgramRefused b h = h
shown_given text files failed SomeRefused b h = absurd h
shown_given text files failed BadWords b h = absurd h
shown_given text files failed ReadFault b h = absurd h
shown_given text files failed WriteFault b h = absurd h
shown_given text files failed NoMemory b h = absurd h
shown_given text files failed TooLong b h = absurd h

-- what a session answers may be given where no file is left
pub session_given : (text script data_bytes : List ℕ) (files : Contents) (failed : List ℕ → Type 0) (s : Status) (b : List ℕ) → IsSession text script data_bytes s b → MayGive [] files failed (IsSession text script data_bytes) s b
session_given text script data_bytes files failed Done b h = h
session_given text script data_bytes files failed SomeRefused b h = h
session_given text script data_bytes files failed ProgramRefused b h = h
session_given text script data_bytes files failed BadWords b h = absurd h
session_given text script data_bytes files failed ReadFault b h = absurd h
session_given text script data_bytes files failed WriteFault b h = absurd h
session_given text script data_bytes files failed NoMemory b h = absurd h
session_given text script data_bytes files failed TooLong b h = absurd h

-- what is answered on a program that is made may be given, since no file is read
pub generated_given : (n : ℕ) (files : Contents) (failed : List ℕ → Type 0) (s : Status) (b : List ℕ) → IsGenerated n s b → MayGive [] files failed (IsGenerated n) s b
generated_given n files failed Done b h = h
generated_given n files failed ProgramRefused b h = h
generated_given n files failed SomeRefused b h = absurd h
generated_given n files failed BadWords b h = absurd h
generated_given n files failed ReadFault b h = absurd h
generated_given n files failed WriteFault b h = absurd h
generated_given n files failed NoMemory b h = absurd h
generated_given n files failed TooLong b h = absurd h

-- no file is left, and the answer to the texts is given
pub text_served : (answers : Status → List ℕ → Type 0) (tests : ℕ → Type 0) (call : Call)
    → ((files : Contents) (failed : List ℕ → Type 0) (s : Status) (b : List ℕ) → answers s b → MayGive [] files failed answers s b)
    → IsOfText call.status
    → ((name : List ℕ) → call.counts_after name ≡ call.counts name)
    → Sends answers (SinkFailed call) call.sent call.sent_after call.status
    → (call.status ≡ WriteFault → SinkFailed call) → call.faults ≤ call.faults_after → (call.taken ≡ None → call.taken_after ≡ None) → (call.taken ≡ Some call.sent → call.taken_after ≡ Some call.sent_after)
    → ((n : ℕ) → tests n → Ticks call.status call.steps call.steps_after n) → (IsUntested call.status → call.steps_after ≡ call.steps) → call.steps ≤ call.steps_after
    → Served [] (λ files. answers) (λ files. tests) call
text_served answers tests call given ends kept says write_fault sink_rises untold told_sent ticks untested rise =
    record {
      sends = λ files may. (says.0, says.1, outcome_weaker answers (MayGive [] files (HasFailed call) answers) (given files (HasFailed call)) (SinkFailed call) says.0 call.status says.2);
      known = λ read files others may too. tt;
      words = not_of_text call.status BadWords (λ f. cc) (λ f. cc) (λ f. cc) (λ f. cc) (λ f. cc) ends;
      read_fault = λ f. absurd (not_of_text call.status ReadFault (λ g. cc) (λ g. cc) (λ g. cc) (λ g. cc) (λ g. cc) ends f);
      write_fault = write_fault;
      too_long = λ l files may. absurd (not_of_text call.status TooLong (λ g. cc) (λ g. cc) (λ g. cc) (λ g. cc) (λ g. cc) ends l);
      rises = λ name. let k = kept name in omega arith;
      others = λ files e name not there. kept name;
      sink_rises = sink_rises;
      untold = untold;
      told_sent = told_sent;
      ticks = λ files may. ticks;
      untested = untested;
      steps_rise = rise;
    }
