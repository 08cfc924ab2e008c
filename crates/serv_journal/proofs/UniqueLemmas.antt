-- A file holds one list of lines.
use Rattle.std.proofs.Common.{◌≡◌, ◌≢◌, ℕ, ◌+◌, ◌/◌, ◌%◌, List, [], ◌∷◌, ◌++◌, length, take, drop, refl, sym, ap, subst, ◌∙◌, ⊎_elim, arith, append_assoc}
use Rattle.std.proofs.lemmas.List.{take_at, drop_at, append_cancel_left}
use Rattle.serv_journal.specs.declared.format.Version.{Version}
use Rattle.serv_journal.specs.declared.format.Version.TheVariants.{One, Two}
use Rattle.serv_journal.specs.Format.{Form, IsForm, IsFront, IsUpgraded, IsLine, AreLines, base, body, records, header, two_bytes, four_bytes}

cons_rest : (a b : ℕ) (r t : List ℕ) → a ∷ r ≡ b ∷ t → r ≡ t
cons_rest a b r t is = cc

cons_first : (a b : ℕ) (r t : List ℕ) → a ∷ r ≡ b ∷ t → a ≡ b
cons_first a b r t is = cc

pub same_split : (a b r t : List ℕ) → length a ≡ length b → a ++ r ≡ b ++ t → (a ≡ b) × (r ≡ t)
same_split a b r t long is = (
  sym (take_at a r (length a) refl) ∙ (ap (take (length a)) is ∙ take_at b t (length a) (sym long)),
  sym (drop_at a r (length a) refl) ∙ (ap (drop (length a)) is ∙ drop_at b t (length a) (sym long)),
)

-- a number has one spelling in two bytes, and one in four
quotient : (a b : ℕ) → a / 256 ≡ b / 256 → a % 256 ≡ b % 256 → a ≡ b
quotient a b high low = omega (arith, high, low)

pub two_same : (a b : ℕ) (r t : List ℕ) → two_bytes a ++ r ≡ two_bytes b ++ t → (a ≡ b) × (r ≡ t)
unfolding two_bytes
two_same a b r t is =
    let high : a / 256 ≡ b / 256 = cc in
    let low : a % 256 ≡ b % 256 = cc in
    (quotient a b high low, cc)

pub four_same : (a b : ℕ) (r t : List ℕ) → four_bytes a ++ r ≡ four_bytes b ++ t → (a ≡ b) × (r ≡ t)
unfolding four_bytes
four_same a b r t is =
    let top : a / 256 / 256 / 256 ≡ b / 256 / 256 / 256 = cc in
    let high : a / 256 / 256 % 256 ≡ b / 256 / 256 % 256 = cc in
    let low : a / 256 % 256 ≡ b / 256 % 256 = cc in
    let last : a % 256 ≡ b % 256 = cc in
    (quotient a b (quotient (a / 256) (b / 256) (quotient (a / 256 / 256) (b / 256 / 256) top high) low) last, cc)

line_same : (a b r t : List ℕ) → two_bytes (length a) ++ (a ++ r) ≡ two_bytes (length b) ++ (b ++ t) → (a ≡ b) × (r ≡ t)
line_same a b r t is =
    let first = two_same (length a) (length b) (a ++ r) (b ++ t) is in
    same_split a b r t first.0 first.1

pub same_body : (version : Version) (number : ℕ) (a b r t : List ℕ) → body version number a ++ r ≡ body version number b ++ t → (a ≡ b) × (r ≡ t)
same_body One number a b r t is =
    line_same a b r t (sym (append_assoc (two_bytes (length a)) a r) ∙ (is ∙ append_assoc (two_bytes (length b)) b t))
same_body Two number a b r t is =
    let spread : (l q : List ℕ) → body Two number l ++ q ≡ four_bytes number ++ (two_bytes (length l) ++ (l ++ q)) =
    λ l q. append_assoc (four_bytes number ++ two_bytes (length l)) l q ∙ append_assoc (four_bytes number) (two_bytes (length l)) (l ++ q) in
    line_same a b r t (append_cancel_left (four_bytes number) (two_bytes (length a) ++ (a ++ r)) (two_bytes (length b) ++ (b ++ t)) (sym (spread a r) ∙ (is ∙ spread b t)))

-- no record with this number stands there
abbrev pub NoRecord : Version → ℕ → List ℕ → Type 0
NoRecord version number tail = (line rest : List ℕ) → IsLine line → tail ≡ 1 ∷ (body version number line ++ rest) → ⊥

-- no mark that ends a part of version 1 stands there
abbrev pub NoMark : Version → List ℕ → Type 0
NoMark version tail = (mark : ℕ) (rest : List ℕ) → version ≡ One → mark ≢ 0 → tail ≡ mark ∷ (header Two ++ rest) → ⊥

pub same_records : (version : Version) (number : ℕ) (xs ys : List (List ℕ)) (r t : List ℕ) → AreLines xs → AreLines ys
    → NoRecord version (number + length xs) r → NoRecord version (number + length ys) t → records version number xs ++ r ≡ records version number ys ++ t → (xs ≡ ys) × (r ≡ t)
same_records version number [] [] r t fit fit2 no_r no_t is = (refl, is)
same_records version number [] (y ∷ ys) r t fit fit2 no_r no_t is =
    let e : number + 0 ≡ number = omega arith in
    absurd (subst (λ n. NoRecord version n r) e no_r y (records version (number + 1) ys ++ t) fit2.0
    (is ∙ ap (λ q. 1 ∷ q) (append_assoc (body version number y) (records version (number + 1) ys) t)))
same_records version number (x ∷ xs) [] r t fit fit2 no_r no_t is =
    let e : number + 0 ≡ number = omega arith in
    absurd (subst (λ n. NoRecord version n t) e no_t x (records version (number + 1) xs ++ r) fit.0
    (sym is ∙ ap (λ q. 1 ∷ q) (append_assoc (body version number x) (records version (number + 1) xs) r)))
same_records version number (x ∷ xs) (y ∷ ys) r t fit fit2 no_r no_t is =
    let rest : (body version number x ++ records version (number + 1) xs) ++ r ≡ (body version number y ++ records version (number + 1) ys) ++ t = cc in
    let first = same_body version number x y (records version (number + 1) xs ++ r) (records version (number + 1) ys ++ t)
    (sym (append_assoc (body version number x) (records version (number + 1) xs) r) ∙ (rest ∙ append_assoc (body version number y) (records version (number + 1) ys) t)) in
    let ex : number + length (x ∷ xs) ≡ number + 1 + length xs = omega arith in
    let ey : number + length (y ∷ ys) ≡ number + 1 + length ys = omega arith in
    let more = same_records version (number + 1) xs ys r t fit.1 fit2.1 (subst (λ n. NoRecord version n r) ex no_r) (subst (λ n. NoRecord version n t) ey no_t) first.1 in
    (ap (λ z. z ∷ xs) first.0 ∙ ap (λ zs. y ∷ zs) more.0, more.1)

pub closed_no_record : (version : Version) (number commit : ℕ) (rest : List ℕ) → commit ≢ 1 → NoRecord version number (commit ∷ rest)
closed_no_record version number commit rest closed line more is_line is = closed (cc)

-- the second header is no record of version 1
pub not_header : (number : ℕ) (line tail rest : List ℕ) → IsLine line → body One number line ++ tail ≡ header Two ++ rest → ⊥
unfolding two_bytes header
not_header number line tail rest is_line is =
    let high : length line / 256 ≡ 77 = cc in
    omega (arith, high, is_line.fits)

pub mark_no_record : (number mark : ℕ) (rest : List ℕ) → NoRecord One number (mark ∷ (header Two ++ rest))
mark_no_record number mark rest line more is_line is =
    not_header number line more rest is_line (sym (cons_rest mark 1 (header Two ++ rest) (body One number line ++ more) is))

-- the two headers differ
pub headers_differ : (r t : List ℕ) → header One ++ r ≡ header Two ++ t → ⊥
unfolding header
headers_differ r t is = let e : ◌≡◌ {A = ℕ} 49 50 = cc in omega (arith, e)

same_form : (f g : Form) → f.version ≡ g.version → f.front ≡ g.front → f ≡ g
same_form f g version front =
    let make : List ℕ → Version → Form = λ x v. record { front = x; version = v } in
    ap (λ v. make f.front v) version ∙ ap (λ x. make x g.version) front

pub record Same (f g : Form) (xs ys : List (List ℕ)) (r t : List ℕ) : Type 0 where
  pub form : f ≡ g
  pub lines : xs ≡ ys
  pub rest : r ≡ t

-- an upgraded front, spread out
spread_front : (lines : List (List ℕ)) (mark : ℕ) (more : List ℕ) → (header One ++ records One 1 lines ++ mark ∷ header Two) ++ more
    ≡ header One ++ (records One 1 lines ++ mark ∷ (header Two ++ more))
spread_front lines mark more =
    append_assoc (header One ++ records One 1 lines) (mark ∷ header Two) more ∙ append_assoc (header One) (records One 1 lines) (mark ∷ (header Two ++ more))

-- a part of version 1 that ends at a mark, and one that does not
not_both : (xs ys : List (List ℕ)) (mark : ℕ) (r more : List ℕ) → AreLines xs → AreLines ys → mark ≢ 0 → NoRecord One (1 + length xs) r → NoMark One r
    → header One ++ (records One 1 xs ++ r) ≡ header One ++ (records One 1 ys ++ mark ∷ (header Two ++ more)) → ⊥
not_both xs ys mark r more fit fit2 marked no_r no_mark is =
    let same = same_records One 1 xs ys r (mark ∷ (header Two ++ more)) fit fit2 no_r (mark_no_record (1 + length ys) mark more)
    (append_cancel_left (header One) (records One 1 xs ++ r) (records One 1 ys ++ mark ∷ (header Two ++ more)) is) in
    no_mark mark more refl marked same.1

one_two : (f g r t : List ℕ) (xs ys : List (List ℕ)) → IsFront One f → IsFront Two g → AreLines xs → NoRecord One (1 + length xs) r → NoMark One r
    → f ++ (records One 1 xs ++ r) ≡ g ++ (records Two 1 ys ++ t) → ⊥
one_two f g r t xs ys is_f is_g fit no_r mark_r is =
    let more : List ℕ = records Two 1 ys ++ t in
    let from_one : header One ++ (records One 1 xs ++ r) ≡ g ++ more = ap (λ q. q ++ (records One 1 xs ++ r)) (sym is_f) ∙ is in
    ⊎_elim
    (λ plain. headers_differ (records One 1 xs ++ r) more (from_one ∙ ap (λ q. q ++ more) plain))
    (λ up. not_both xs up.lines up.mark r more fit up.fit up.marked no_r mark_r (from_one ∙ (ap (λ q. q ++ more) up.is ∙ spread_front up.lines up.mark more)))
    is_g

two_upgraded : (f g r t : List ℕ) → IsUpgraded f → IsUpgraded g → f ++ r ≡ g ++ t → f ≡ g
two_upgraded f g r t up up2 is =
    let spread : header One ++ (records One 1 up.lines ++ up.mark ∷ (header Two ++ r)) ≡ header One ++ (records One 1 up2.lines ++ up2.mark ∷ (header Two ++ t)) =
    sym (ap (λ q. q ++ r) up.is ∙ spread_front up.lines up.mark r) ∙ (is ∙ (ap (λ q. q ++ t) up2.is ∙ spread_front up2.lines up2.mark t)) in
    let same = same_records One 1 up.lines up2.lines (up.mark ∷ (header Two ++ r)) (up2.mark ∷ (header Two ++ t)) up.fit up2.fit
    (mark_no_record (1 + length up.lines) up.mark r) (mark_no_record (1 + length up2.lines) up2.mark t)
    (append_cancel_left (header One) (records One 1 up.lines ++ up.mark ∷ (header Two ++ r)) (records One 1 up2.lines ++ up2.mark ∷ (header Two ++ t)) spread) in
    let mark = cons_first up.mark up2.mark (header Two ++ r) (header Two ++ t) same.1 in
    up.is ∙ (ap (λ q. header One ++ records One 1 q ++ up.mark ∷ header Two) same.0 ∙ (ap (λ m. header One ++ records One 1 up2.lines ++ m ∷ header Two) mark ∙ sym up2.is))

two_two : (f g r t : List ℕ) → IsFront Two f → IsFront Two g → f ++ r ≡ g ++ t → f ≡ g
two_two f g r t is_f is_g is =
    ⊎_elim
    (λ plain. ⊎_elim
    (λ plain2. plain ∙ sym plain2)
    (λ up2. absurd (headers_differ (records One 1 up2.lines ++ up2.mark ∷ (header Two ++ t)) r
    (sym (ap (λ q. q ++ t) up2.is ∙ spread_front up2.lines up2.mark t) ∙ (sym is ∙ ap (λ q. q ++ r) plain))))
    is_g)
    (λ up. ⊎_elim
    (λ plain2. absurd (headers_differ (records One 1 up.lines ++ up.mark ∷ (header Two ++ r)) t
    (sym (ap (λ q. q ++ r) up.is ∙ spread_front up.lines up.mark r) ∙ (is ∙ ap (λ q. q ++ t) plain2))))
    (λ up2. two_upgraded f g r t up up2 is)
    is_g)
    is_f

-- fronts and what comes after them
same_fronts : (v w : Version) (f g r t : List ℕ) (xs ys : List (List ℕ)) → IsFront v f → IsFront w g → AreLines xs → AreLines ys
    → NoRecord v (1 + length xs) r → NoRecord w (1 + length ys) t → NoMark v r → NoMark w t
    → f ++ (records v 1 xs ++ r) ≡ g ++ (records w 1 ys ++ t) → (v ≡ w) × (f ≡ g) × (xs ≡ ys) × (r ≡ t)
same_fronts One One f g r t xs ys is_f is_g fit fit2 no_r no_t mark_r mark_t is =
    let both : f ≡ g = is_f ∙ sym is_g in
    let same = same_records One 1 xs ys r t fit fit2 no_r no_t (append_cancel_left g (records One 1 xs ++ r) (records One 1 ys ++ t) (ap (λ q. q ++ (records One 1 xs ++ r)) (sym both) ∙ is)) in
    (refl, both, same.0, same.1)
same_fronts One Two f g r t xs ys is_f is_g fit fit2 no_r no_t mark_r mark_t is =
    absurd (one_two f g r t xs ys is_f is_g fit no_r mark_r is)
same_fronts Two One f g r t xs ys is_f is_g fit fit2 no_r no_t mark_r mark_t is =
    absurd (one_two g f t r ys xs is_g is_f fit2 no_t mark_t (sym is))
same_fronts Two Two f g r t xs ys is_f is_g fit fit2 no_r no_t mark_r mark_t is =
    let both : f ≡ g = two_two f g (records Two 1 xs ++ r) (records Two 1 ys ++ t) is_f is_g is in
    let same = same_records Two 1 xs ys r t fit fit2 no_r no_t (append_cancel_left g (records Two 1 xs ++ r) (records Two 1 ys ++ t) (ap (λ q. q ++ (records Two 1 xs ++ r)) (sym both) ∙ is)) in
    (refl, both, same.0, same.1)

pub same_found : (f g : Form) (xs ys : List (List ℕ)) (r t : List ℕ) → IsForm f → IsForm g → AreLines xs → AreLines ys
    → NoRecord f.version (1 + length xs) r → NoRecord g.version (1 + length ys) t → NoMark f.version r → NoMark g.version t
    → base f xs ++ r ≡ base g ys ++ t → Same f g xs ys r t
unfolding base
same_found f g xs ys r t is_f is_g fit fit2 no_r no_t mark_r mark_t is =
    let same = same_fronts f.version g.version f.front g.front r t xs ys is_f is_g fit fit2 no_r no_t mark_r mark_t
    (sym (append_assoc f.front (records f.version 1 xs) r) ∙ (is ∙ append_assoc g.front (records g.version 1 ys) t)) in
    record { form = same_form f g same.0 same.1; lines = same.2; rest = same.3 }
