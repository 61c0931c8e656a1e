use Rattle.uf_lenient.proofs.Visited.{file-alike, greater-agrees, pieces-front, pieces-next}
use Rattle.uf_lenient.proofs.laws.pieces_are_of_one_file.Goals as goal

pub returns-clause-front : goal.returns-clause-front
returns-clause-front c = λ held limits start calls now gave. pieces-front held limits start calls now gave

pub returns-clause-next : goal.returns-clause-next
returns-clause-next c = λ held more limits start calls now after answer gave agree is. pieces-next held limits start more calls now after answer gave agree is

pub returns-clause-file : goal.returns-clause-file
returns-clause-file c = λ held more limits start agree. file-alike held limits start more agree

pub returns-clause-greater : goal.returns-clause-greater
returns-clause-greater c = λ held more limits start bytes is all. greater-agrees held more all limits start bytes is
