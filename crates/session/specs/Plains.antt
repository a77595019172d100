-- The commands of one line and one reply, whatever their paths are held in. Assumes nothing.
use Rattle.session.specs.declared.plain.Plain.{Plain}
use Rattle.session.specs.declared.plain.Plain.TheVariants.{Cwd, Cdup, Dele, Rmd, Mkd, Noop, Quit}

-- the command with another path
abbrev pub plain_map : {A B : Type 0} → (A → B) → Plain A → Plain B
plain_map f (Cwd path) = Cwd (f path)
plain_map f Cdup = Cdup
plain_map f (Dele path) = Dele (f path)
plain_map f (Rmd path) = Rmd (f path)
plain_map f (Mkd path) = Mkd (f path)
plain_map f Noop = Noop
plain_map f Quit = Quit
