-- Events as text: the words of an event's line, and the lines that are events. An event is one atomic step of one region,
-- and a file of events is a whole run, which can be sent, kept and played again. How lines and words are cut is stated in
-- dt_text. Read next: Laws, why text and events are as good as each other; and `Step` of dt_session, for what each kind
-- of step does.
use Rattle.std.specs.Prelude.{◌≡◌, ℕ, ◌<◌, ◌≤◌, ◌^◌, ◌⊎◌, List, [], ◌∷◌, ◌++◌, length, map, codes, Option, Some, None}
use Rattle.std.specs.List.{slice_range, join_with_byte}
use Rattle.std.specs.Fmt.{decimal}
use Rattle.dt_lists.specs.Lists.{AllIn, Pairwise}
use Rattle.dt_text.specs.Texts.{IsName}
use Rattle.dt_text.specs.Lines.{FileLine, lines_of}
use Rattle.dt_text.specs.Words.{AreWords}
use Rattle.dt_text.specs.declared.Word.{Word}
use Rattle.dt_text.specs.declared.Word.TheVariants.{Bare, Text}
use Rattle.dt_access.specs.Ids.{IsCounted, id_text}
use Rattle.dt_events.specs.declared.event.Event.{Event}
use Rattle.dt_events.specs.declared.event.Event.TheVariants.{Submit, Append, Deliver, Insert, Resolve, Execute, Answer}

-- the region that an event belongs to
abbrev pub region_of : Event → ℕ
region_of (Submit region session) = region
region_of (Append home source number) = home
region_of (Deliver region home first last) = region
region_of (Insert region home) = region
region_of (Resolve region ids) = region
region_of (Execute region id) = region
region_of (Answer region session) = region

-- the word that an event begins with
abbrev pub kind_word : Event → List ℕ
kind_word (Submit region session) = codes "submit"
kind_word (Append home source number) = codes "append"
kind_word (Deliver region home first last) = codes "deliver"
kind_word (Insert region home) = codes "insert"
kind_word (Resolve region ids) = codes "resolve"
kind_word (Execute region id) = codes "execute"
kind_word (Answer region session) = codes "answer"

-- the words of an event after that of its region
abbrev pub argument_words : Event → List (List ℕ)
argument_words (Submit region session) = session ∷ []
argument_words (Append home source number) = decimal source ∷ decimal number ∷ []
argument_words (Deliver region home first last) = decimal home ∷ decimal first ∷ decimal last ∷ []
argument_words (Insert region home) = decimal home ∷ []
argument_words (Resolve region ids) = map id_text ids
argument_words (Execute region id) = id_text id ∷ []
argument_words (Answer region session) = session ∷ []

-- the words of an event: its kind, its region, and what else it names
abbrev pub event_words : Event → List (List ℕ)
event_words event = kind_word event ∷ decimal (region_of event) ∷ argument_words event

-- a region's number has 8 bits
abbrev pub IsRegion : ℕ → Type 0
IsRegion n = n < 2 ^ 8

-- a number of requests or entries has 32 bits
abbrev pub IsCount : ℕ → Type 0
IsCount n = n < 2 ^ 32

-- an event that a line can have: its numbers are in range, its session is a name, its ids are counted, and a resolved
-- group has two or more of them
abbrev pub IsWritten : Event → Type 0
IsWritten (Submit region session) = IsRegion region × IsName session
IsWritten (Append home source number) = IsRegion home × IsRegion source × IsCount number
IsWritten (Deliver region home first last) = IsRegion region × IsRegion home × IsCount first × IsCount last
IsWritten (Insert region home) = IsRegion region × IsRegion home
IsWritten (Resolve region ids) = IsRegion region × (2 ≤ length ids) × AllIn IsCounted ids
IsWritten (Execute region id) = IsRegion region × IsCounted id
IsWritten (Answer region session) = IsRegion region × IsName session

-- the bytes of a word of a line, if it is a bare one
abbrev pub bare_bytes : List ℕ → Word → Option (List ℕ)
bare_bytes line (Bare from to) = Some (slice_range line from to)
bare_bytes line (Text text) = None

-- the line is made of these bare words
abbrev pub AreBareWords : List ℕ → List (List ℕ) → Type 0
AreBareWords line bares = (words : List Word) × AreWords line words × (map (bare_bytes line) words ≡ map (λ w. Some w) bares)

-- the line is the event: it is made of the event's words
abbrev pub IsEventLine : List ℕ → Event → Type 0
IsEventLine line event = IsWritten event × AreBareWords line (event_words event)

-- the line is some event
abbrev pub HasEventForm : List ℕ → Type 0
HasEventForm line = (event : Event) × IsEventLine line event

-- a line of a file is the event, which is numbered as the line
abbrev pub IsNumberedEvent : FileLine → ℕ × Event → Type 0
IsNumberedEvent line numbered = (numbered.0 ≡ line.number) × IsEventLine line.bytes numbered.1

-- a file is these events, each with the number of its line: they are the lines that are not skipped, in order
abbrev pub AreEvents : List ℕ → List (ℕ × Event) → Type 0
AreEvents file events = Pairwise IsNumberedEvent (lines_of file) events

-- the first of the lines that has no event form has this number
abbrev pub FirstWithoutForm : List FileLine → ℕ → Type 0
FirstWithoutForm [] number = ⊥
FirstWithoutForm (line ∷ lines) number =
    (¬ HasEventForm line.bytes × (line.number ≡ number)) ⊎ (HasEventForm line.bytes × FirstWithoutForm lines number)

-- the text of an event: its words with a space between each two
abbrev pub event_text : Event → List ℕ
event_text event = join_with_byte 32 (event_words event)

-- the line of an event, with the byte that ends it
abbrev pub event_line : Event → List ℕ
event_line event = event_text event ++ 10 ∷ []
