-- What the facts of a month are told by.
use Rattle.svc_types.specs.declared.books.Books.{Books}
use Rattle.svc_types.specs.declared.books.Collected.{Collected}

-- the balance of books, and what they have collected since boarding
abbrev pub collected_of : Books → Collected
collected_of b = record { upb = b.upb; curtailed = b.curtailed; interest = b.interest; fee = b.fee }
