-- SPDX-License-Identifier: MIT
use Rattle.rrc_history.specs.lemmas.ImagesJudged.{image-reply_to}
use Rattle.rrc_history.specs.lemmas.ImagesRight.{right_where_image_is, legal_where_image_is}
use Rattle.rrc_history.proofs.images.images_are_right_alike.Goals as goal

pub returns-clause-right : goal.returns-clause-right
returns-clause-right c = right_where_image_is

pub returns-clause-legal : goal.returns-clause-legal
returns-clause-legal c = legal_where_image_is

pub returns-clause-answers : goal.returns-clause-answers
returns-clause-answers c = image-reply_to
