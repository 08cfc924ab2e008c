-- A link in its course, and what it is where it ends.
use Rattle.std.proofs.Common.{◌≡◌, ℕ, ◌+◌, ◌<◌, ◌≤◌, false, List, [], ◌++◌, length, refl, sym, ap, subst, ◌∙◌, inl, inr, arith, append-nil, length-append}
use Rattle.std.specs.Prelude.{Option, Some, None, Result, Ok, Err}
use Rattle.std.specs.Io.KnownBytes.{Consumes, IsAtEnd}
use Rattle.std.proofs.KnownBytes.{Appends-nil, Consumes-nil, Consumes-trans}
use Rattle.std.proofs.lemmas.Bool.{both_ways}
use Rattle.svc_world.specs.World.{Accepted}
use Rattle.serv_disk.specs.Sides.{Reading, Writing}
use Rattle.serv_disk.specs.Stamps.{Stamp, Notes}
use Rattle.serv_http.specs.declared.ask.Ask.{Ask}
use Rattle.serv_http.specs.declared.conn.Conn.{Conn}
use Rattle.serv_http.specs.Conns.{StandsFor, StandsForLeft, is_over}
use Rattle.serv_http.specs.Streams.{AsksTo}
use Rattle.serv_http.proofs.StreamLemmas.{asks-grow}
use Rattle.serv_machine.specs.Answering.{Writes}
use Rattle.serv_machine.specs.OnDisk.{OnDisk, Upholds}
use Rattle.serv_links.specs.declared.link_end.LinkEnd.{LinkEnd}
use Rattle.serv_links.specs.declared.link_end.LinkEnd.TheVariants as link_end
use Rattle.serv_machine.specs.declared.faults.Stop.{Stop}
use Rattle.serv_machine.specs.declared.faults.Stop.TheVariants as stop
use Rattle.serv_machine.specs.History.{Stand}
use Rattle.serv_links.specs.Meanings.{last_text}
use Rattle.serv_links.specs.Outcomes.{IsAnswered, AreRead, AreInFront, IsCutOff, IsPiece, AppendsFront, AreAnswersOf}
use Rattle.serv_machine.proofs.UpheldLemmas.{upheld_none}
use Rattle.serv_links.proofs.AnsweredLemmas.{asks_none, front_none, front_grows, piece_upheld, unread_upheld}
use Rattle.serv_links.specs.Links.{IsAll, IsReadOn, IsServed, Serves, link_limit, read_limit}
use Rattle.serv_links.proofs.RoundLemmas.{answered_none, answered_more, ended_more, cut_off_weaker, unread_ended}
use Rattle.serv_machine.proofs.GatheredLemmas.{writes_as, writes_more}
use Rattle.serv_disk.specs.Disks.{View}

-- all requests of the bytes taken are answered, and the connection stands for what is left of them; and of what so many bytes
-- answer, which writes are upheld
pub record Going (upheld : (ℕ → List Accepted → Type 0) → Type 0) (left left' : Option (List ℕ)) (c : Conn) (n taken : ℕ) (s s' : Stand) (pending : List Accepted) (added : List ℕ) : Type 0 where
  pub nothing : pending ≡ []
  pub bytes : List ℕ
  pub took : Consumes left left' bytes
  pub count : taken ≡ length bytes
  pub asks : List Ask
  pub rest : List ℕ
  pub asked : AsksTo bytes asks (Some rest)
  pub stands : StandsFor c rest
  pub answered : IsAnswered n asks s s' added
  pub acknowledged : upheld (AreAnswersOf (AreInFront bytes) s.history)

-- the same where the connection may have ended
pub record Passed (upheld : (ℕ → List Accepted → Type 0) → Type 0) (left left' : Option (List ℕ)) (c : Conn) (n taken : ℕ) (s s' : Stand) (pending : List Accepted) (added : List ℕ) : Type 0 where
  pub nothing : pending ≡ []
  pub bytes : List ℕ
  pub took : Consumes left left' bytes
  pub count : taken ≡ length bytes
  pub asks : List Ask
  pub over : Option (List ℕ)
  pub asked : AsksTo bytes asks over
  pub stands : StandsForLeft c over
  pub read_on : IsReadOn bytes
  pub answered : IsAnswered n asks s s' added
  pub acknowledged : upheld (AreAnswersOf (AreInFront bytes) s.history)

-- why it stops
pub stopped_as : (o : Result (Unit {0}) Stop) (e why : Stop) → o ≡ Err e → e ≡ why → o ≡ Err why
stopped_as o e why is same = is ∙ ap Err same

-- ---- sides of a link

-- what a write leaves of the side that is read
pub same_left : (x y : Reading) (b b' : Option (List ℕ)) (f f' : ℕ) → x ≡ record { left = b; faults = f } → y ≡ record { left = b'; faults = f' } → y ≡ x → b' ≡ b
same_left x y b b' f f' xs ys same = ap (λ (z : Reading). z.left) (sym ys ∙ (same ∙ xs))

pub same_reads : (x y : Reading) (b b' : Option (List ℕ)) (f f' : ℕ) → x ≡ record { left = b; faults = f } → y ≡ record { left = b'; faults = f' } → y ≡ x → f' ≡ f
same_reads x y b b' f f' xs ys same = ap (λ (z : Reading). z.faults) (sym ys ∙ (same ∙ xs))

-- what a read leaves of the side that is written
module _ (x y : Writing) (b b' : Option (List ℕ)) (f f' : ℕ) (l l' : Option (List Stamp)) (m m' : ℕ) (xs : x ≡ record { held = b; faults = f; log = l; mark = m }) (ys : y ≡ record { held = b'; faults = f'; log = l'; mark = m' }) (same : y ≡ x) where
  pub same_held : b' ≡ b
  same_held = ap (λ (z : Writing). z.held) (sym ys ∙ (same ∙ xs))

  pub same_writes : f' ≡ f
  same_writes = ap (λ (z : Writing). z.faults) (sym ys ∙ (same ∙ xs))

  pub same_log : l' ≡ l
  same_log = ap (λ (z : Writing). z.log) (sym ys ∙ (same ∙ xs))

-- ---- the bytes of two pieces

bytes_more : (bytes piece : List ℕ) (taken count : ℕ) → taken ≡ length bytes → length piece ≡ count → taken + count ≡ length (bytes ++ piece)
bytes_more bytes piece taken count is long = let joined = length-append bytes piece in omega arith

took_more : (left left' left'' left''' : Option (List ℕ)) (bytes piece : List ℕ) → Consumes left left' bytes → Consumes left' left'' piece → left''' ≡ left'' → Consumes left left''' (bytes ++ piece)
took_more left left' left'' left''' bytes piece first second same = subst (λ l. Consumes left l (bytes ++ piece)) (sym same) (Consumes-trans left left' left'' bytes piece first second)

-- ---- what the next piece makes of it

module _ (U V : (ℕ → List Accepted → Type 0) → Type 0) (left left' : Option (List ℕ)) (c : Conn) (n taken : ℕ) (s t : Stand) (pending : List Accepted) (added : List ℕ) (going : Going U left left' c n taken s t pending added)
    (left'' left''' : Option (List ℕ)) (piece : List ℕ) (count : ℕ) (long : length piece ≡ count) (few : count ≤ read_limit) (took : Consumes left' left'' piece) (same : left''' ≡ left'') (cut : Type 0)
    (up : V (AreAnswersOf (AreInFront (going.bytes ++ piece)) s.history)) where
  -- it went on before the piece
  last_read : IsReadOn (going.bytes ++ piece)
  last_read = record { before = going.bytes; piece = piece; parted = refl; few = omega (arith, few, long); asks = going.asks; going = going.rest; asked = going.asked }

  passed_more : (m : ℕ) (c' : Conn) (t' : Stand) (pending' : List Accepted) (w : List ℕ) → IsPiece cut (Ok tt) m (going.rest ++ piece) c' t t' pending' w
      → Passed V left left''' c' (n + m) (taken + count) s t' pending' (added ++ w)
  passed_more m c' t' pending' w more = record {
    nothing = more.2;
    bytes = going.bytes ++ piece;
    took = took_more left left' left'' left''' going.bytes piece going.took took same;
    count = bytes_more going.bytes piece taken count going.count long;
    asks = going.asks ++ more.0;
    over = more.1.0;
    asked = asks-grow going.asks more.0 going.bytes going.rest piece more.1.0 going.asked more.1.1;
    stands = more.1.2;
    read_on = last_read;
    answered = answered_more n m going.asks more.0 s t t' added w going.answered more.3;
    acknowledged = up;
  }

  cut_off_more : (why : Stop) (m : ℕ) (t' : Stand) (pending' : List Accepted) (w : List ℕ) → IsCutOff (AreRead (going.rest ++ piece)) cut why m t t' pending' w
      → IsCutOff (AreInFront (going.bytes ++ piece)) cut why (n + m) s t' pending' (added ++ w)
  cut_off_more why m t' pending' w more = record {
    asks = going.asks ++ more.asks;
    known = front_grows going.asks more.asks going.bytes going.rest piece going.asked more.known;
    ended = ended_more cut why n m going.asks more.asks s t t' pending' added w going.answered more.ended;
  }

  -- it ends there
  stopped_more : taken + count ≤ link_limit → (reads : Type 0) (end : LinkEnd) (t' : Stand) (pending' : List Accepted) (all : List ℕ) → IsServed end reads cut (IsAtEnd left''') (going.bytes ++ piece) s t' pending' all
      → Serves end reads cut V left left''' s t' pending' all
  stopped_more within reads end t' pending' all says = record {
    taken = going.bytes ++ piece;
    took = took_more left left' left'' left''' going.bytes piece going.took took same;
    within = (let long = bytes_more going.bytes piece taken count going.count long in omega arith);
    read_on = last_read;
    says = says;
    acknowledged = up;
  }

-- ---- where it ends without a further piece

module _ (U : (ℕ → List Accepted → Type 0) → Type 0) (left left' : Option (List ℕ)) (c : Conn) (n taken : ℕ) (s t : Stand) (pending : List Accepted) (added : List ℕ) (reads writes : Type 0) where
  going_all : (g : Going U left left' c n taken s t pending added) → IsAll n g.bytes added s t (Some g.rest)
  going_all g = record { asks = g.asks; asked = g.asked; answered = g.answered }

  going_read : (g : Going U left left' c n taken s t pending added) → IsReadOn g.bytes
  going_read g = record { before = g.bytes; piece = []; parted = sym (append-nil g.bytes); few = omega arith; asks = g.asks; going = g.rest; asked = g.asked }

  ended_at_end : Going U left left' c n taken s t pending added → (left'' : Option (List ℕ)) → taken < link_limit → Consumes left' left'' [] → IsAtEnd left''
      → Serves (link_end.Ended n) reads writes U left left'' s t pending added
  ended_at_end g left'' below took end = record {
    taken = g.bytes;
    took = subst (Consumes left left'') (append-nil g.bytes) (Consumes-trans left left' left'' g.bytes [] g.took took);
    within = (let is = g.count in omega arith);
    read_on = going_read g;
    says = (g.nothing, (let is = g.count in omega arith), (Some g.rest, going_all g, inl end));
    acknowledged = g.acknowledged;
  }

  broken_at_read : Going U left left' c n taken s t pending added → (left'' : Option (List ℕ)) → taken < link_limit → left'' ≡ left' → reads → Serves (link_end.Broken n) reads writes U left left'' s t pending added
  broken_at_read g left'' below same risen = record {
    taken = g.bytes;
    took = subst (λ l. Consumes left l g.bytes) (sym same) g.took;
    within = (let is = g.count in omega arith);
    read_on = going_read g;
    says = inl (risen, g.nothing, (let is = g.count in omega arith), (g.rest, going_all g));
    acknowledged = g.acknowledged;
  }

  cut_at_limit : Passed U left left' c n taken s t pending added → taken ≡ link_limit → Serves (link_end.Cut n) reads writes U left left' s t pending added
  cut_at_limit p full = record {
    taken = p.bytes;
    took = p.took;
    within = (let is = p.count in omega arith);
    read_on = p.read_on;
    says = (p.nothing, (let is = p.count in omega arith), (p.over, record { asks = p.asks; asked = p.asked; answered = p.answered }));
    acknowledged = p.acknowledged;
  }

  -- a connection that has ended stands for no bytes
  over_is : (over : Option (List ℕ)) → StandsForLeft c over → ((r : List ℕ) → StandsFor c r → ⊥) → over ≡ None
  over_is None stands none = refl
  over_is (Some r) stands none = absurd (none r stands)

  ended_at_request : Passed U left left' c n taken s t pending added → taken < link_limit → ((r : List ℕ) → StandsFor c r → ⊥) → Serves (link_end.Ended n) reads writes U left left' s t pending added
  ended_at_request p below none = record {
    taken = p.bytes;
    took = p.took;
    within = (let is = p.count in omega arith);
    read_on = p.read_on;
    says = (p.nothing, (let is = p.count in omega arith), (p.over, record { asks = p.asks; asked = p.asked; answered = p.answered }, inr (over_is p.over p.stands none)));
    acknowledged = p.acknowledged;
  }

  rest_of : (over : Option (List ℕ)) → is_over c ≡ false → StandsForLeft c over → (r : List ℕ) × (over ≡ Some r) × StandsFor c r
  rest_of None going stands = absurd (both_ways (is_over c) going stands)
  rest_of (Some r) going stands = (r, refl, stands)

  going_on : Passed U left left' c n taken s t pending added → is_over c ≡ false → Going U left left' c n taken s t pending added
  going_on p going =
      let r = rest_of p.over going p.stands in
      record {
        nothing = p.nothing;
        bytes = p.bytes;
        took = p.took;
        count = p.count;
        asks = p.asks;
        rest = r.0;
        asked = subst (AsksTo p.bytes p.asks) r.1 p.asked;
        stands = r.2;
        answered = p.answered;
        acknowledged = p.acknowledged;
      }

-- ---- with what is written to the link and left on a disk

module _ {D : Type 0} (view : D → View) where
  -- no memory was there for the connection
  pub starved_at_once : (d : D) → ((c : List ℕ) → (view d).since (view d).moment c → (view d).images c) → (reads writes : Type 0) (left left' held held' : Option (List ℕ)) (log log' : Option (List Stamp)) (s : Stand) → left' ≡ left
      → AppendsFront writes held held' (last_text stop.OutOfMemory) → ((x : List ℕ) → held ≡ Some x → Notes (view d).moment (length x + length (last_text stop.OutOfMemory)) log log') → OnDisk view d d s.history s.history []
      → Writes view d d (Serves (link_end.NoMemory 0) reads writes (λ covers. Upholds covers (view d) s.history held log log') left left' s s) s.history s.history held held'
  starved_at_once d only reads writes left left' held held' log log' s same front notes disk =
      writes_as view d d _ _ _ _ held held'
      (λ pending w cut. record {
        taken = [];
        took = subst (λ l. Consumes left l []) (sym same) (Consumes-nil left);
        within = omega arith;
        read_on = record { before = []; piece = []; parted = refl; few = omega arith; asks = []; going = []; asked = asks_none };
        says = cut;
        acknowledged = unread_upheld view d only (AreInFront []) front_none s held log log' disk notes;
      })
      (unread_ended view (AreInFront []) front_none writes d s held held' front disk)

  pub going_none : (d : D) (left held : Option (List ℕ)) (log : Option (List Stamp)) (c : Conn) (s : Stand) → StandsFor c [] → OnDisk view d d s.history s.history []
      → Writes view d d (Going (λ covers. Upholds covers (view d) s.history held log log) left left c 0 0 s s) s.history s.history held held
  going_none d left held log c s stands disk = record {
    pending = [];
    written = [];
    wrote = Appends-nil held;
    says_so = record {
      nothing = refl;
      bytes = [];
      took = Consumes-nil left;
      count = refl;
      asks = [];
      rest = [];
      asked = asks_none;
      stands = stands;
      answered = answered_none s s refl (omega arith);
      acknowledged = upheld_none (AreAnswersOf (AreInFront []) s.history) (view d) s.history held log;
    };
    disk = disk;
  }

  -- it stays as it is but for what is held, which is the same
  abbrev Run : (old new : D) (says : List Accepted → List ℕ → Type 0) (s s' : Stand) (held held' : Option (List ℕ)) → Type 0
  Run old new says s s' held held' = Writes view old new says s.history s'.history held held'

  held_same : (old new : D) (P : List Accepted → List ℕ → Type 0) (s s' : Stand) (held held' held'' : Option (List ℕ)) → held'' ≡ held' → Run old new P s s' held held' → Run old new P s s' held held''
  held_same old new P s s' held held' held'' same w = subst (λ h. Run old new P s s' held h) (sym same) w

  module _ (old mid : D) (U : Option (List Stamp) → (ℕ → List Accepted → Type 0) → Type 0) (log log' : Option (List Stamp)) (unnoted : log' ≡ log) (left left' held held' : Option (List ℕ)) (c : Conn) (n taken : ℕ) (s t : Stand)
      (run : Run old mid (Going (U log) left left' c n taken s t) s t held held')
      (left'' held'' : Option (List ℕ)) (same : held'' ≡ held') (below : taken < link_limit) (reads writes : Type 0) where
    pub run_ends : Consumes left' left'' [] → IsAtEnd left'' → Run old mid (Serves (link_end.Ended n) reads writes (U log') left left'' s t) s t held held''
    run_ends took end = subst (λ l. Run old mid (Serves (link_end.Ended n) reads writes (U l) left left'' s t) s t held held'') (sym unnoted)
        (held_same old mid _ s t held held' held'' same
        (writes_as view old mid _ _ _ _ held held' (λ p w g. ended_at_end (U log) left left' c n taken s t p w reads writes g left'' below took end) run))

    pub run_breaks : left'' ≡ left' → reads → Run old mid (Serves (link_end.Broken n) reads writes (U log') left left'' s t) s t held held''
    run_breaks unread risen = subst (λ l. Run old mid (Serves (link_end.Broken n) reads writes (U l) left left'' s t) s t held held'') (sym unnoted)
        (held_same old mid _ s t held held' held'' same
        (writes_as view old mid _ _ _ _ held held' (λ p w g. broken_at_read (U log) left left' c n taken s t p w reads writes g left'' below unread risen) run))

  -- a piece of a link was read, and then served
  module _ (old mid new : D) (left left' left'' left''' held held' held'' held''' : Option (List ℕ)) (c c' : Conn) (n taken : ℕ) (s t t' : Stand)
      (log log' log'' log''' : Option (List Stamp)) (unnoted : log'' ≡ log')
      (run : Run old mid (Going (λ covers. Upholds covers (view mid) t.history held log log') left left' c n taken s t) s t held held') (same : held'' ≡ held')
      (piece : List ℕ) (count : ℕ) (long : length piece ≡ count) (few : count ≤ read_limit) (took : Consumes left' left'' piece) (stays : left''' ≡ left'')
      (cut : Type 0) (o : Result (Unit {0}) Stop) (m : ℕ) (served : (r : List ℕ) → StandsFor c r → Run mid new (IsPiece cut o m (r ++ piece) c' t t') t t' held'' held''')
      (upheld : (r : List ℕ) → StandsFor c r → Upholds (AreAnswersOf (AreRead (r ++ piece)) t.history) (view new) t'.history held'' log'' log''') where
    abbrev V : (ℕ → List Accepted → Type 0) → Type 0
    V covers = Upholds covers (view new) t'.history held log log'''

    -- what was answered of the bytes before it, and of it
    up : V (AreAnswersOf (AreInFront (run.says_so.bytes ++ piece)) s.history)
    up =
        let g = run.says_so in
        let later : Upholds (AreAnswersOf (AreRead (g.rest ++ piece)) t.history) (view new) t'.history held' log' log''' =
        subst (λ l. Upholds (AreAnswersOf (AreRead (g.rest ++ piece)) t.history) (view new) t'.history held' l log''') unnoted
        (subst (λ h. Upholds (AreAnswersOf (AreRead (g.rest ++ piece)) t.history) (view new) t'.history h log'' log''') same (upheld g.rest g.stands)) in
        let second = served g.rest g.stands in
        piece_upheld view mid new n s t t' second.pending second.disk held held' run.written run.wrote log log' log''' g.asks g.bytes g.rest piece g.asked g.answered g.acknowledged later

    joined : (R : List Accepted → List ℕ → Type 0)
        → ((p : List Accepted) (w : List ℕ) → IsPiece cut o m (run.says_so.rest ++ piece) c' t t' p w → R p (run.written ++ w)) → Run old new R s t' held held'''
    joined R then =
        let second : Run mid new (IsPiece cut o m (run.says_so.rest ++ piece) c' t t') t t' held' held''' =
        subst (λ h. Run mid new (IsPiece cut o m (run.says_so.rest ++ piece) c' t t') t t' h held''') same (served run.says_so.rest run.says_so.stands) in
        writes_more view old mid new _ _ R _ _ _ held held' held''' run run.says_so.nothing second
        (then second.pending second.written second.says_so)

    pub run_passes : o ≡ Ok tt → Run old new (Passed V left left''' c' (n + m) (taken + count) s t') s t' held held'''
    run_passes is = joined _ (λ p w x. passed_more (λ covers. Upholds covers (view mid) t.history held log log') V left left' c n taken s t run.pending run.written run.says_so left'' left''' piece count long few took stays cut up m c' t' p w
        (subst (λ q. IsPiece cut q m (run.says_so.rest ++ piece) c' t t' p w) is x))

    module _ (within : taken + count ≤ link_limit) (reads writes : Type 0) (then : cut → writes) where
      -- no further request is answered
      stops : (why : Stop) (end : LinkEnd) → o ≡ Err why
          → ((p : List Accepted) (w : List ℕ) → IsCutOff (AreInFront (run.says_so.bytes ++ piece)) writes why (n + m) s t' p w → IsServed end reads writes (IsAtEnd left''') (run.says_so.bytes ++ piece) s t' p w)
          → Run old new (Serves end reads writes V left left''' s t') s t' held held'''
      stops why end is says = joined _ (λ p w x.
          stopped_more (λ covers. Upholds covers (view mid) t.history held log log') V left left' c n taken s t run.pending run.written run.says_so left'' left''' piece count long few took stays writes up within reads end t' p
          (run.written ++ w)
          (says p (run.written ++ w)
          (cut_off_more (λ covers. Upholds covers (view mid) t.history held log log') V left left' c n taken s t run.pending run.written run.says_so left'' left''' piece count long few took stays writes up why m t' p w
          (cut_off_weaker (AreRead (run.says_so.rest ++ piece)) cut writes why m t t' p w then (subst (λ q. IsPiece cut q m (run.says_so.rest ++ piece) c' t t' p w) is x)))))

      pub run_broken : o ≡ Err stop.WriteFault → writes → Run old new (Serves (link_end.Broken (n + m)) reads writes V left left''' s t') s t' held held'''
      run_broken is risen = stops stop.WriteFault (link_end.Broken (n + m)) is (λ p w cut. inr (risen, cut))

      pub run_disk : o ≡ Err stop.DiskFault → Run old new (Serves (link_end.Disk (n + m)) reads writes V left left''' s t') s t' held held'''
      run_disk is = stops stop.DiskFault (link_end.Disk (n + m)) is (λ p w cut. cut)

      pub run_memory : o ≡ Err stop.OutOfMemory → Run old new (Serves (link_end.NoMemory (n + m)) reads writes V left left''' s t') s t' held held'''
      run_memory is = stops stop.OutOfMemory (link_end.NoMemory (n + m)) is (λ p w cut. cut)

  -- after a piece that was answered
  module _ (old new : D) (U : (ℕ → List Accepted → Type 0) → Type 0) (left left' held held' : Option (List ℕ)) (c : Conn) (n taken : ℕ) (s t : Stand) (run : Run old new (Passed U left left' c n taken s t) s t held held') where
    pub run_cut : (reads writes : Type 0) → taken ≡ link_limit → Run old new (Serves (link_end.Cut n) reads writes U left left' s t) s t held held'
    run_cut reads writes full = writes_as view old new _ _ _ _ held held' (λ p w g. cut_at_limit U left left' c n taken s t p w reads writes g full) run

    pub run_over : (reads writes : Type 0) → taken < link_limit → ((r : List ℕ) → StandsFor c r → ⊥) → Run old new (Serves (link_end.Ended n) reads writes U left left' s t) s t held held'
    run_over reads writes below none = writes_as view old new _ _ _ _ held held' (λ p w g. ended_at_request U left left' c n taken s t p w reads writes g below none) run

    pub run_goes : is_over c ≡ false → Run old new (Going U left left' c n taken s t) s t held held'
    run_goes going = writes_as view old new _ _ _ _ held held' (λ p w g. going_on U left left' c n taken s t p w ⊥ ⊥ g going) run
