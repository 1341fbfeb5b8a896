-- What a request asks for, by its method and its path.
use Rattle.std.specs.Prelude.{ℕ, Bool, true, false, ◌||◌, List, codes, if◌then◌else◌}
use Rattle.std.specs.Str.{bytes_eq}
use Rattle.rr_web.specs.declared.ask.Ask.{Ask}
use Rattle.rr_web.specs.declared.reply.Kind.{Kind}
use Rattle.rr_web.specs.declared.reply.Kind.TheVariants as kind
use Rattle.rr_web.specs.declared.ask.Ask.TheVariants.{Write, Fetch, Series, Metrics, Journal, Checkpoint, Page, Script, Style, Health, Ping, OnlyPost, OnlyGet, Nothing}

-- what is read at a path
abbrev pub read_at : List ℕ → Ask
read_at path =
    if bytes_eq path (codes "/fetch") then Fetch
    else (if bytes_eq path (codes "/series") then Series
    else (if bytes_eq path (codes "/metrics") then Metrics
    else (if bytes_eq path (codes "/journal") then Journal
    else (if bytes_eq path (codes "/checkpoint") then Checkpoint
    else (if bytes_eq path (codes "/") then Page
    else (if bytes_eq path (codes "/rr.js") then Script
    else (if bytes_eq path (codes "/rr.css") then Style
    else (if bytes_eq path (codes "/health") then Health
    else (if bytes_eq path (codes "/ping") then Ping else Nothing)))))))))

-- where lines are taken: the paths of InfluxDB's two versions
abbrev pub is_of_lines : List ℕ → Bool
is_of_lines path = bytes_eq path (codes "/write") || bytes_eq path (codes "/api/v2/write")

abbrev pub is_get : List ℕ → Bool
is_get method = bytes_eq method (codes "GET") || bytes_eq method (codes "HEAD")

-- what is read there, if anything is and the method reads
abbrev pub by_get : Bool → Ask → Ask
by_get reads Nothing = Nothing
by_get true ask = ask
by_get false ask = OnlyGet

unfoldable pub ask_of : List ℕ → List ℕ → Ask
ask_of method path =
    if is_of_lines path then (if bytes_eq method (codes "POST") then Write else OnlyPost)
    else by_get (is_get method) (read_at path)

-- the kind of the page, its script or its style
abbrev pub page_kind : Ask → Kind
page_kind Script = kind.Script
page_kind Style = kind.Style
page_kind other = kind.Html
