-- What words ask for is one thing.
use Rattle.std.proofs.Common.{◌≡◌, ℕ, List, sym, subst, ◌∙◌}
use Rattle.std.specs.Prelude.{Some, None, ⊤}
use Rattle.svc_types.specs.declared.requests.Query.{Query}
use Rattle.serv_words.specs.declared.texts.Text.{Text}
use Rattle.serv_words.specs.declared.texts.Text.TheVariants.{Ask}
use Rattle.serv_words.specs.declared.words.Task.{Task}
use Rattle.serv_words.specs.declared.words.Task.TheVariants.{Write}
use Rattle.serv_words.specs.Words.{task_in, IsAsking, IsGiven}
use Rattle.serv_words.proofs.AskLemmas.{one_asked}

one_task : (t u : Task) → Some t ≡ Some u → t ≡ u
one_task t u e = cc

pub of_task : (words : List (List ℕ)) (t : Task) (P : Task → Type 0) → Some t ≡ task_in words → ((q : Query) → IsAsking words q → ⊥) → P t → (u : Task) → IsGiven words u → P u
of_task words t P is none here (Write (Ask q)) given = absurd (none q given)
of_task words t P is none here other given = subst P (one_task t other (is ∙ given)) here

no_task : (t : Task) → None ≡ Some t → ⊥
no_task t e = absurd (cc)

pub of_query : (words : List (List ℕ)) (p : Query) (P : Task → Type 0) → None ≡ task_in words → ((q : Query) → IsAsking words q → Some p ≡ Some q) → P (Write (Ask p)) → (u : Task) → IsGiven words u → P u
of_query words p P is only here (Write (Ask q)) given = subst (λ x. P (Write (Ask x))) (sym (one_asked p q (only q given))) here
of_query words p P is only here other given = absurd (no_task other (is ∙ given))

pub of_none : (words : List (List ℕ)) (P : Task → Type 0) → None ≡ task_in words → ((q : Query) → IsAsking words q → ⊥) → (u : Task) → IsGiven words u → P u
of_none words P is none (Write (Ask q)) given = absurd (none q given)
of_none words P is none other given = absurd (no_task other (is ∙ given))

-- ---- a text

-- words that ask for another task ask for no text
abbrev pub IsOther : Task → Type 0
IsOther (Write text) = ⊥
IsOther other = ⊤

pub no_text : (words : List (List ℕ)) (t : Task) (G : Text → Type 0) → Some t ≡ task_in words → ((q : Query) → IsAsking words q → ⊥) → IsOther t → (x : Text) → IsGiven words (Write x) → G x
no_text words t G is none other x given = absurd (of_task words t IsOther is none other (Write x) given)

-- what is said of a text is said of the task that writes it
abbrev ForText : (Text → Type 0) → Task → Type 0
ForText G (Write text) = G text
ForText G other = ⊤

pub text_of_task : (words : List (List ℕ)) (text : Text) (G : Text → Type 0) → Some (Write text) ≡ task_in words → ((q : Query) → IsAsking words q → ⊥) → G text → (x : Text) → IsGiven words (Write x) → G x
text_of_task words text G is none here x given = of_task words (Write text) (ForText G) is none here (Write x) given

pub text_of_query : (words : List (List ℕ)) (p : Query) (G : Text → Type 0) → None ≡ task_in words → ((q : Query) → IsAsking words q → Some p ≡ Some q) → G (Ask p) → (x : Text) → IsGiven words (Write x) → G x
text_of_query words p G is only here x given = of_query words p (ForText G) is only here (Write x) given

pub text_of_none : (words : List (List ℕ)) (G : Text → Type 0) → None ≡ task_in words → ((q : Query) → IsAsking words q → ⊥) → (x : Text) → IsGiven words (Write x) → G x
text_of_none words G is none x given = of_none words (ForText G) is none (Write x) given
