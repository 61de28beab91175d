-- Which bytes an answer is.
use Rattle.std.specs.Prelude.{ℕ, ◌≡◌, ◌==◌, ◌⊎◌, Bool, if◌then◌else◌, List, [], ◌∷◌, ◌++◌, length, codes, decimal, IsTrue, Result, Ok, Err}
use Rattle.std.specs.List.{list_any}
use Rattle.http.specs.StatusCode.{status_text}
use Rattle.lie_outer.specs.Link.{Line, Writes}
use Rattle.lie_outer.specs.declared.link.LinkFail.{LinkFail}
use Rattle.lie_outer.specs.declared.link.LinkFail.TheVariants.{Failed, NoMemory}
use Rattle.lie_http.specs.declared.answer.Answer.{Answer}

-- the statuses that the service answers
abbrev pub IsServiceStatus : ℕ → Type 0
IsServiceStatus status = IsTrue (list_any (λ s. s == status)
    (200 ∷ (201 ∷ (400 ∷ (404 ∷ (405 ∷ (409 ∷ (413 ∷ (422 ∷ (431 ∷ (500 ∷ (503 ∷ (507 ∷ [])))))))))))))

-- the first line
unfoldable pub status_line : ℕ → List ℕ
status_line status = codes "HTTP/1.1 " ++ status_text status ++ codes "\r\n"

-- the line of the length
unfoldable pub length_line : ℕ → List ℕ
length_line n = codes "Content-Length: " ++ decimal n ++ codes "\r\n"

-- the line of the type
abbrev pub type_line : Bool → List ℕ
type_line json = if json then codes "Content-Type: application/json\r\n" else codes "Content-Type: text/plain\r\n"

-- the head, and then the body
abbrev pub answer_text : Answer → List ℕ
answer_text answer = status_line answer.status ++ length_line (length answer.body) ++ type_line answer.json
    ++ codes "Connection: close\r\n\r\n" ++ answer.body

-- the text was written; after an error a part of its front, and nothing where the service itself found no memory
abbrev pub WritesAnswer : {T : Type 0} → Line → Line → List ℕ → Result T LinkFail → Type 0
WritesAnswer {T} old new text (Ok done) = Writes {T = T} old new text (Ok done)
WritesAnswer {T} old new text (Err Failed) = Writes {T = T} old new text (Err Failed)
WritesAnswer {T} old new text (Err NoMemory) = (new ≡ old) ⊎ Writes {T = T} old new text (Err NoMemory)

-- the answer for want of memory
unfoldable pub no_memory_text : List ℕ
no_memory_text = status_line 500 ++ length_line 15 ++ codes "Content-Type: text/plain\r\n"
    ++ codes "Connection: close\r\n\r\n" ++ codes "lie: no memory\n"
