use Rattle.container_core.proofs.HeaderLemmas.{size-header_of, length-header_of, header_length-of, prefix_in-header_of, shape_in-of, label-of}
use Rattle.container_core.proofs.laws.headers_name_their_shape.Goals as goal

pub returns-clause-size : goal.returns-clause-size
returns-clause-size c = size-header_of

pub returns-clause-length : goal.returns-clause-length
returns-clause-length c = length-header_of

pub returns-clause-whole : goal.returns-clause-whole
returns-clause-whole c = λ key prefix rest shape seven. header_length-of key prefix rest shape.exponent shape.label seven

pub returns-clause-prefix : goal.returns-clause-prefix
returns-clause-prefix c = prefix_in-header_of

pub returns-clause-shape : goal.returns-clause-shape
returns-clause-shape c = shape_in-of

pub returns-clause-label : goal.returns-clause-label
returns-clause-label c = label-of
