-- What a statement says of the text, beside what it adds.
use Rattle.ground_program.specs.Draft.{Draft}
use Rattle.aspif_format.specs.Read.{Statement, Adds, Ends}
use Rattle.aspif_format.specs.declared.statement.Step.{Step}
use Rattle.aspif_format.specs.declared.statement.Step.TheVariants.{On, End}

-- the statement that the builder was changed by
abbrev pub statement_of : Step → Draft → Statement
statement_of On draft = Adds draft
statement_of End draft = Ends
