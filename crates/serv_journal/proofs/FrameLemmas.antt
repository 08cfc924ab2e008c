-- Records whose lines lie in one run of bytes: one more, and the one at a place.
use Rattle.std.proofs.Common.{◌≡◌, ℕ, ◌+◌, ◌-◌, ◌<◌, ◌≤◌, List, [], ◌∷◌, ◌++◌, length, take, drop, get_or, refl, sym, ap, subst, ◌∙◌, arith, length-append}
use Rattle.std.proofs.lemmas.List.{map_push, get_or-map, length-map, length-drop, drop_at, take_all, take-append-le, drop-append-le}
use Rattle.std.proofs.lemmas.List.Elements.{All-head, All-tail, All-push}
use Rattle.serv_journal.specs.declared.frames.Frame.{Frame}
use Rattle.serv_journal.specs.Reading.{lines_in, places_in}
use Rattle.serv_journal.specs.Frames.{shown, frames_of, IsWithin, AreWithin}

-- bytes that are added after a line leave it as it is
shown_more : (bytes more : List ℕ) (frame : Frame) → IsWithin bytes frame → shown (bytes ++ more) frame ≡ shown bytes frame
shown_more bytes more frame within =
    let fits : frame.start ≤ length bytes = omega (arith, within.0, within.1) in
    let long : frame.end - frame.start ≤ length (drop frame.start bytes) = omega (arith, within.0, within.1, length-drop frame.start bytes) in
    ap (λ (t : List ℕ). (let f : ℕ × List ℕ = (frame.place, take (frame.end - frame.start) t) in f)) (drop-append-le frame.start bytes more fits)
    ∙ ap (λ (t : List ℕ). (let f : ℕ × List ℕ = (frame.place, t) in f)) (take-append-le (frame.end - frame.start) (drop frame.start bytes) more long)

pub frames_more : (bytes more : List ℕ) (list : List Frame) → AreWithin bytes list → frames_of (bytes ++ more) list ≡ frames_of bytes list
frames_more bytes more [] h = refl
frames_more bytes more (frame ∷ list) h =
    ap (λ (f : ℕ × List ℕ). f ∷ frames_of (bytes ++ more) list) (shown_more bytes more frame (All-head (IsWithin bytes) frame list h))
    ∙ ap (λ (t : List (ℕ × List ℕ)). shown bytes frame ∷ t) (frames_more bytes more list (All-tail (IsWithin bytes) frame list h))

pub within_more : (bytes more : List ℕ) (list : List Frame) → AreWithin bytes list → AreWithin (bytes ++ more) list
within_more bytes more list h = λ k d lt. (let one = h k d lt in (one.0, omega (arith, one.1, length-append bytes more)))

-- a line is added at the end of the bytes
pub frames_push : (bytes line : List ℕ) (list : List Frame) (frame : Frame) → AreWithin bytes list → frame.start ≡ length bytes → frame.end ≡ length bytes + length line
    → frames_of (bytes ++ line) (list ++ frame ∷ []) ≡ frames_of bytes list ++ (frame.place, line) ∷ []
frames_push bytes line list frame h start end =
    let rest : drop frame.start (bytes ++ line) ≡ line = drop_at bytes line frame.start (sym start) in
    let whole : take (frame.end - frame.start) line ≡ line = take_all (frame.end - frame.start) line (omega (arith, start, end)) in
    let last : shown (bytes ++ line) frame ≡ (frame.place, line) =
    ap (λ (t : List ℕ). (let f : ℕ × List ℕ = (frame.place, t) in f)) (ap (take (frame.end - frame.start)) rest ∙ whole) in
    map_push (shown (bytes ++ line)) list frame
    ∙ ap (λ (t : List (ℕ × List ℕ)). t ++ shown (bytes ++ line) frame ∷ []) (frames_more bytes line list h)
    ∙ ap (λ (f : ℕ × List ℕ). frames_of bytes list ++ f ∷ []) last

pub within_push : (bytes line : List ℕ) (list : List Frame) (frame : Frame) → AreWithin bytes list → frame.start ≡ length bytes → frame.end ≡ length bytes + length line
    → AreWithin (bytes ++ line) (list ++ frame ∷ [])
within_push bytes line list frame h start end =
    All-push (IsWithin (bytes ++ line)) list frame (within_more bytes line list h) (omega (arith, start, end), omega (arith, end, length-append bytes line))

pub within_at : (bytes : List ℕ) (list : List Frame) (seen : List (ℕ × List ℕ)) (i : ℕ) (frame : Frame) → AreWithin bytes list → frames_of bytes list ≡ seen
    → i < length seen → frame ≡ get_or list i frame → IsWithin bytes frame
within_at bytes list seen i frame h view within is =
    let few : i < length list = omega (arith, within, ap length view, length-map list (shown bytes)) in
    subst (IsWithin bytes) (sym is) (h i frame few)

-- the line at a place of the list
view_at : (bytes : List ℕ) (list : List Frame) (seen : List (ℕ × List ℕ)) (i : ℕ) (frame : Frame) → frames_of bytes list ≡ seen
    → i < length seen → frame ≡ get_or list i frame → get_or seen i (shown bytes frame) ≡ shown bytes frame
view_at bytes list seen i frame view within is =
    let few : i < length list = omega (arith, within, ap length view, length-map list (shown bytes)) in
    ap (λ t. get_or t i (shown bytes frame)) (sym view) ∙ (get_or-map (shown bytes) list i frame (shown bytes frame) few ∙ ap (shown bytes) (sym is))

pub line_at : (bytes : List ℕ) (list : List Frame) (seen : List (ℕ × List ℕ)) (i : ℕ) (frame : Frame) → frames_of bytes list ≡ seen
    → i < length seen → frame ≡ get_or list i frame → take (frame.end - frame.start) (drop frame.start bytes) ≡ get_or (lines_in seen) i []
line_at bytes list seen i frame view within is =
    sym (get_or-map (λ (f : ℕ × List ℕ). f.1) seen i (shown bytes frame) [] within ∙ ap (λ (f : ℕ × List ℕ). f.1) (view_at bytes list seen i frame view within is))

pub place_at : (bytes : List ℕ) (list : List Frame) (seen : List (ℕ × List ℕ)) (i : ℕ) (frame : Frame) → frames_of bytes list ≡ seen
    → i < length seen → frame ≡ get_or list i frame → frame.place ≡ get_or (places_in seen) i 0
place_at bytes list seen i frame view within is =
    sym (get_or-map (λ (f : ℕ × List ℕ). f.0) seen i (shown bytes frame) 0 within ∙ ap (λ (f : ℕ × List ℕ). f.0) (view_at bytes list seen i frame view within is))
