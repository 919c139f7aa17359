-- The words of the command line, and what they ask for.
use Rattle.std.specs.Prelude.{ℕ, Bool, true, false, not, ◌==◌, ◌≡◌, ◌≤◌, ◌&&◌, List, [], ◌∷◌, codes, drop, find, if◌then◌else◌, Option, None, Some}
use Rattle.std.specs.Ordering.{is_gt}
use Rattle.std.specs.Str.{bytes_eq}
use Rattle.std.specs.declared.string.String.{String}
use Rattle.std.specs.Str.Parse.{digits_value}
use Rattle.std.specs.String.{string_bytes}
use Rattle.co_base.specs.Letters.{IsText, most_key_bytes}
use Rattle.co_base.specs.Limits.{most_members}
use Rattle.co_base.specs.Order.{key_cmp}
use Rattle.co_schedule.specs.Places.{is_named, is_number, is_text}
use Rattle.co_trial.specs.Trials.{most_trial_events}
use Rattle.co_top.specs.Front.{most}
use Rattle.co_top.specs.Sights.{ask_for}
use Rattle.co_top.specs.declared.reader.Ask.{Ask}
use Rattle.co_top.specs.declared.words.Command.{Command}
use Rattle.co_top.specs.declared.words.Word.{Word}
use Rattle.co_top.specs.declared.words.Word.TheVariants as word
use Rattle.co_top.specs.declared.words.Command.TheVariants.{Run, Records, Resolve, Migrate, Check, Waits, Trial, Look, Unknown}

-- A command: with the name of a directory, and whether its logs are those of an earlier run; or the number of a trial and of its events; or what a reader asks for.
pub data Asked : Type 0 where
  AsksRun : List ℕ → Bool → Asked
  AsksRecords : List ℕ → Asked
  AsksResolve : List ℕ → Asked
  AsksMigrate : List ℕ → Asked
  AsksCheck : Asked
  AsksWaits : Asked
  AsksTrial : ℕ → ℕ → Asked
  AsksLook : Ask → Asked
  AsksNothing : Asked

-- at least one byte, and the first one is no dash
abbrev pub is_argument : List ℕ → Bool
is_argument [] = false
is_argument (b ∷ bs) = not (b == 45)

-- the words that begin a command
abbrev pub word_text : Word → List ℕ
word_text word.Run = codes "run"
word_text word.Records = codes "records"
word_text word.Resolve = codes "resolve"
word_text word.Migrate = codes "migrate"
word_text word.Check = codes "check"
word_text word.Waits = codes "waits"
word_text word.Trial = codes "trial"
word_text word.Look = codes "look"

abbrev pub all_words : List Word
all_words = word.Run ∷ word.Records ∷ word.Resolve ∷ word.Migrate ∷ word.Check ∷ word.Waits ∷ word.Trial ∷ word.Look ∷ []

abbrev pub word_named : List ℕ → Option Word
word_named text = find (λ w. bytes_eq (word_text w) text) all_words

abbrev pub is_resume : List ℕ → Bool
is_resume text = bytes_eq text (codes "--resume")

-- a word alone
abbrev pub asked_alone : Word → Asked
asked_alone word.Check = AsksCheck
asked_alone word.Waits = AsksWaits
asked_alone _ = AsksNothing

-- a word and the name of a directory
abbrev pub asked_over : Word → List ℕ → Asked
asked_over word.Run directory = AsksRun directory false
asked_over word.Records directory = AsksRecords directory
asked_over word.Resolve directory = AsksResolve directory
asked_over word.Migrate directory = AsksMigrate directory
asked_over _ directory = AsksNothing

abbrev pub asked_of_directory : Word → List ℕ → Asked
asked_of_directory word directory = if is_argument directory then asked_over word directory else AsksNothing

-- a run, with the name of a directory behind `--resume` or before it
abbrev pub asked_to_resume : {A : Type 0} → String A → String A → Asked
asked_to_resume first second =
    if is_resume (string_bytes first) && is_argument (string_bytes second) then AsksRun (string_bytes second) true
    else (if is_resume (string_bytes second) && is_argument (string_bytes first) then AsksRun (string_bytes first) true else AsksNothing)

-- a trial: a number of 64 bits, and how many events
abbrev pub asked_to_try : {A : Type 0} → String A → String A → Asked
asked_to_try number events =
    if is_number 0 18446744073709551615 (string_bytes number) && is_number 1 most_trial_events (string_bytes events)
    then AsksTrial (digits_value 10 (string_bytes number)) (digits_value 10 (string_bytes events)) else AsksNothing

-- a word and two others
abbrev pub asked_with_two : {A : Type 0} → Word → String A → String A → Asked
asked_with_two word.Trial first second = asked_to_try first second
asked_with_two word.Run first second = asked_to_resume first second
asked_with_two _ first second = AsksNothing

-- the least and the greatest key of a range, neither of which begins with a dash
abbrev pub are_bounds : List ℕ → List ℕ → Bool
are_bounds low high = is_text most_key_bytes low && (is_text most_key_bytes high && (is_argument low && (is_argument high && not (is_gt (key_cmp low high)))))

-- a reader: its member, its line, and the bounds of its range
abbrev pub asked_to_look : {A : Type 0} → String A → String A → String A → String A → Asked
asked_to_look member line low high =
    if are_bounds (string_bytes low) (string_bytes high) && (is_named 109 most_members (string_bytes member) && is_number 1 most (string_bytes line))
    then AsksLook (ask_for (digits_value 10 (drop 1 (string_bytes member))) (digits_value 10 (string_bytes line)) (string_bytes low) (string_bytes high)) else AsksNothing

-- a word and four others
abbrev pub asked_with_four : {A : Type 0} → Word → String A → String A → String A → String A → Asked
asked_with_four word.Look member line low high = asked_to_look member line low high
asked_with_four _ first second third fourth = AsksNothing

-- a word and those behind it
abbrev pub asked_with : {A : Type 0} → Word → List (String A) → Asked
asked_with word [] = asked_alone word
asked_with word (directory ∷ []) = asked_of_directory word (string_bytes directory)
asked_with word (first ∷ second ∷ []) = asked_with_two word first second
asked_with word (first ∷ second ∷ third ∷ []) = AsksNothing
asked_with word (first ∷ second ∷ third ∷ fourth ∷ []) = asked_with_four word first second third fourth
asked_with word (first ∷ second ∷ third ∷ fourth ∷ fifth ∷ words) = AsksNothing

abbrev pub asked_if : {A : Type 0} → Option Word → List (String A) → Asked
asked_if None words = AsksNothing
asked_if (Some word) words = asked_with word words

-- what the words ask for; every other list of words asks for nothing
abbrev pub asked_by : {A : Type 0} → List (String A) → Asked
asked_by [] = AsksNothing
asked_by (first ∷ words) = asked_if (word_named (string_bytes first)) words

-- this command is what is asked for; a trial has as many events as one may have, and a reader asks for a range
abbrev pub IsCommand : Asked → Command → Type 0
IsCommand asked (Run directory resume) = asked ≡ AsksRun directory.now resume
IsCommand asked (Records directory) = asked ≡ AsksRecords directory.now
IsCommand asked (Resolve directory) = asked ≡ AsksResolve directory.now
IsCommand asked (Migrate directory) = asked ≡ AsksMigrate directory.now
IsCommand asked Check = asked ≡ AsksCheck
IsCommand asked Waits = asked ≡ AsksWaits
IsCommand asked (Trial number events) = (asked ≡ AsksTrial number events) × (1 ≤ events) × (events ≤ most_trial_events)
IsCommand asked (Look member line low high) =
    (asked ≡ AsksLook (ask_for member line low.now high.now)) × (1 ≤ member) × (1 ≤ line) × IsText most_key_bytes low.now × IsText most_key_bytes high.now × (is_gt (key_cmp low.now high.now) ≡ false)
IsCommand asked Unknown = asked ≡ AsksNothing
